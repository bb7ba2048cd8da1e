-- Which pages of a store a merge's run takes.
use Rattle.std.proofs.Common.{◌≡◌, ◌+◌, ◌<◌, ℕ, Option, Result, Ok, Err, sym, subst, arith}
use Rattle.std.specs.Prelude.{IfOk, IfSome}
use Rattle.std.specs.Result.{result_ok}
use Rattle.refusal.specs.declared.Failed.{Failed}
use Rattle.blsm_model.specs.declared.component.Component.{Component}
use Rattle.page_space.specs.Space.{SpaceState, IsWithin, role_count, role_size}
use Rattle.merge_ends.specs.Output.{TakesPages}
use Rattle.merge_ends.proofs.OutputLemmas.{within_taken}

-- The roles have as many pages more as the run has.
pub within_run : (live role pages : ℕ) (old new : SpaceState) → role < role_count → IsWithin live 0 old → TakesPages role old new → role_size new role ≡ role_size old role + pages
    → IsWithin (live + pages) 0 new
within_run live role pages old new below within takes size =
    within_taken live 0 role 0 pages old new below takes (omega (arith, size)) (record { roles = omega (arith, within.roles); seats = within.seats })

-- What holds of the component that was to be given holds of one that was given.
pub if_given : (r : Result Component Failed) (o : Option Component) (c : Component) (P : Component → Type 0) → o ≡ result_ok r → IfOk r (λ given. given ≡ c) → P c → IfSome o P
if_given (Ok given) o c P is same holds = subst (λ (x : Option Component). IfSome x P) (sym is) (subst P (sym same) holds)
if_given (Err failed) o c P is same holds = subst (λ (x : Option Component). IfSome x P) (sym is) tt
