use Rattle.std.proofs.lemmas.List.Elements.{All-from_recursion, recursion_from_All}
use Rattle.blsm_model.specs.Packs.{FitsTail}
use Rattle.blsm_model.proofs.PackLemmas.{tails_fit, fit_tails}
use Rattle.blsm_model.proofs.pack.Pack.fits.Goals as goal

pub returns : goal.returns
returns c =
    let told = rw c.as_slice.ensures.value at c.have_tails.ensures in
    let heads = c.self.inside.heads.items in
    let whole = c.self.invariant.are.whole in
    rw (← c.self.view_is) (
      λ yes. tails_fit heads c.self.inside.bytes.items whole (recursion_from_All (λ h. FitsTail h.kind h.text_len) heads (told.0 yes)),
      λ all. told.1 (All-from_recursion (λ h. FitsTail h.kind h.text_len) heads (fit_tails heads c.self.inside.bytes.items whole all)),
    )
