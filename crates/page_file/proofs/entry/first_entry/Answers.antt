use Rattle.std.proofs.Common.{◌≡◌, ◌++◌, ◌∙◌, drop, length, List, ℕ, ap, refl, sym, length-append, arith}
use Rattle.std.proofs.lemmas.List.{drop_at}
use Rattle.entry_codec.specs.Spelling.{spelling}
use Rattle.entry_codec.proofs.SpellingLemmas.{length-spelling}
use Rattle.page_file.proofs.entry.first_entry.Goals as goal

pub split_at-requires : goal.split_at-requires
split_at-requires c =
    let found = c.in_ok-key.ensures.found in
    let begins = found.1 in
    let key = c.in_ok-key.key.now in
    omega (arith, found.2, ap (length {A = ℕ}) begins.parts, length-append (spelling key found.0) begins.rest, length-spelling key found.0)

pub returns-in_err-key-clause-none : goal.returns-in_err-key-clause-none
returns-in_err-key-clause-none c =
    rw c.from_residual.ensures (λ key rest first. c.in_err-key.ensures.none first.entry.0 first.entry.1 (record { entry = first.right; rest = rest; parts = first.parts }))

pub returns-clause-found : goal.returns-clause-found
returns-clause-found c =
    let found = c.in_ok-key.ensures.found in
    let rec = found.0 in
    let begins = found.1 in
    let key = c.in_ok-key.key.now in
    let back : c.split_at.result.1.now ≡ begins.rest =
    c.split_at.ensures.back ∙ ap (drop c.in_ok-key.length) begins.parts ∙ drop_at (spelling key rec) begins.rest c.in_ok-key.length (length-spelling key rec ∙ sym found.2) in
    record {
      entry = (key, rec);
      right = begins.entry;
      key_is = refl;
      parts = begins.parts ∙ ap (λ (l : List ℕ). spelling key rec ++ l) (sym back);
    }
