use Rattle.std.proofs.Common.{[], ℕ, sym, refl, ◌∙◌, arith}
use Rattle.std.proofs.lemmas.Bool.{eqb-true, leb-true}
use Rattle.record_delta.specs.declared.record.Rec.TheVariants.{Base, Delta}
use Rattle.entry_codec.proofs.SpellingLemmas.{no_text, tail_record}
use Rattle.entry_codec.proofs.decoding.Head.has_record.Goals as goal

pub returns-in-1-clause-some : goal.returns-in-1-clause-some
returns-in-1-clause-some c = λ some text long fits.
    (Base (record { count = c.args.self.count; text = text }), record { kind_is = sym c.in-1.is; count_is = refl; text_is = refl; fits = fits })

pub returns-in-2-clause-some : goal.returns-in-2-clause-some
returns-in-2-clause-some c = λ bare text long fits.
    (Delta (record { count = c.args.self.count; text = [] }), record { kind_is = sym c.in-2.is; count_is = refl; text_is = sym (no_text text (long ∙ eqb-true _ 0 bare)); fits = omega arith })

pub returns-then-not-is_bare-clause-some : goal.returns-then-not-is_bare-clause-some
returns-then-not-is_bare-clause-some c = λ small text long fits.
    tail_record c.args.self.kind c.args.self.count text c.in-4.is (λ none. c.if-not-is_bare.true (sym long ∙ none)) (omega (arith, long, leb-true c.args.self.text_len 64 small))
