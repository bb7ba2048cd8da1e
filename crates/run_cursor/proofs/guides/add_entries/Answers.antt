use Rattle.std.proofs.Common.{◌∙◌, ◌++◌, ap, refl, sym}
use Rattle.std.proofs.lemmas.Bool.{false≢true}
use Rattle.bloom_bits.specs.Fences.{FencesState}
use Rattle.run_cursor.proofs.RebuildLemmas.{above_first, above_key, fence_first, first_of_all, none_first, not_none}
use Rattle.run_cursor.proofs.guides.add_entries.Goals as goal

pub returns-in_default-clause-added : goal.returns-in_default-clause-added
returns-in_default-clause-added c = λ entries each is room above. absurd (not_none entries c.args.fences.now.list (none_first entries c.args.bytes.now each is c.in_default.ensures.none) above)

pub returns-then-not-takes-clause-added : goal.returns-then-not-takes-clause-added
returns-then-not-takes-clause-added c = λ entries each is room above.
    let found = c.in-Some.ensures.found in
    let first = first_of_all entries c.args.bytes.now c.in-Some.first _ each is found in
    let here = above_key found.entry.0 c.in-Some.first c.args.fences.now.list found.key_is (above_first entries found.entry first.0 c.args.fences.now.list first.1 above) in
    absurd (false≢true (sym c.if-not-takes.true ∙ c.takes.ensures.1 (room, here)))

pub returns-clause-added : goal.returns-clause-added
returns-clause-added c = λ entries each is room above.
    let found = c.in-Some.ensures.found in
    let first = first_of_all entries c.args.bytes.now c.in-Some.first _ each is found in (
      refl,
      ap (λ (f : FencesState). f.list) c.push.ensures ∙ ap (λ l. c.args.fences.now.list ++ l) (fence_first c.args.at entries found.entry first.0 c.in-Some.first first.1 found.key_is),
      λ keys has. c.add_keys.ensures.keys keys entries has each is,
    )
