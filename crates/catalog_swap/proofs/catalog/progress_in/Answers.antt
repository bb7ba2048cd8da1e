use Rattle.std.proofs.Common.{◌≡◌, refl, ap, sym, subst, ◌∙◌, take, drop, length, inl, arith}
use Rattle.std.specs.Prelude.{IfNone}
use Rattle.std.specs.Int.{w16, to_be_bytes}
use Rattle.catalog_swap.specs.declared.catalog.Progress.{Progress}
use Rattle.catalog_swap.specs.Text.{FitsProgress, progress_text}
use Rattle.std.proofs.lemmas.Bool.{false≢true}
use Rattle.catalog_swap.proofs.TextLemmas.{key_read, key_missed, no_other_length, progress_read}
use Rattle.catalog_swap.proofs.catalog.progress_in.Goals as goal

pub returns-then-key_len-gt-MAX_LEN-clause-none : goal.returns-then-key_len-gt-MAX_LEN-clause-none
returns-then-key_len-gt-MAX_LEN-clause-none c = λ other fits begins.
    let same = (no_other_length c.args.body.now c.u16_at.result (omega arith) c.u16_at.ensures other fits begins).0 in
    let short = fits.short_key in
    omega (arith, c.if-key_len-gt-MAX_LEN.true, c.from-key_len.ensures, same, short)

pub returns-in_err-key-clause-none : goal.returns-in_err-key-clause-none
returns-in_err-key-clause-none c =
    subst (λ o. IfNone o ((other : Progress) → FitsProgress other → take (length (progress_text other)) (drop 84 c.args.body.now) ≡ progress_text other → ⊥)) (sym c.from_residual.ensures)
    (λ other fits begins.
    let n = c.from-key_len.result in
    let some = fits.some_key in
    let same = (no_other_length c.args.body.now c.u16_at.result (omega arith) c.u16_at.ensures other fits begins).0 in
    key_missed c.args.body.now n c.requires (omega (arith, c.from-key_len.ensures, same, some)) (omega (arith, c.if-key_len-gt-MAX_LEN.false)) (c.in_err-key.ensures.none.0 refl))

pub returns-clause-found : goal.returns-clause-found
returns-clause-found c =
    let n = c.from-key_len.result in
    let read = key_read c.args.body.now c.in_ok-key.key n c.requires (omega (arith, c.if-key_len-gt-MAX_LEN.false)) c.in_ok-key.ensures.some (λ none. false≢true (sym (c.in_ok-key.ensures.none.1 (inl none)))) in (
      record {
        output = c.component_at.ensures.fits;
        next = omega arith;
        z = omega arith;
        some_key = read.2;
        short_key = omega (arith, read.1, c.if-key_len-gt-MAX_LEN.false);
      },
      progress_read c.args.body.now _ n read.1 c.component_at.ensures.text c.u32_at.ensures c.u64_at.ensures
          (c.u16_at.ensures ∙ ap (to_be_bytes w16) (sym c.from-key_len.ensures)) read.0,
    )
