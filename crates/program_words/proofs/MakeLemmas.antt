-- The geometry that four numbers make, if any, and what a file and numbers ask for.
use Rattle.std.proofs.lemmas.Bool.Decides.{nat_tests}
use Rattle.std.proofs.lemmas.Grind.{common_steps}
use Rattle.std.proofs.Common.{◌≡◌, ℕ, ◌==◌, Option, Some, None, ap, ◌∙◌, arith}
use Rattle.clap.specs.Words.{Text}
use Rattle.blsm_model.specs.Sizes.{Sizes, IsGeometry}
use Rattle.program_words.specs.Words.{geometry_by, make_by, run_by, serve_by, make, run, serve}

-- the four numbers as they were found
pub record AreFound (sizes : Sizes) (h r l q : Option ℕ) : Type 0 where
  pub half : Some sizes.half ≡ h
  pub ratio : Some sizes.ratio ≡ r
  pub low : Some sizes.low ≡ l
  pub quantum : Some sizes.quantum ≡ q

pub made : (sizes made_sizes : Sizes) (half ratio low quantum : Option ℕ) → AreFound sizes half ratio low quantum → made_sizes ≡ sizes → IsGeometry made_sizes → Some made_sizes ≡ geometry_by half ratio low quantum
made sizes made_sizes half ratio low quantum h1 h2 h3 = grind (arith, common_steps, nat_tests)

pub no_name : (name : Option Text) (sizes : Option Sizes) → None ≡ name → None ≡ make_by name sizes
no_name name sizes h1 = grind (arith, common_steps, nat_tests)

pub both_found : (name : Option Text) (sizes : Option Sizes) (n : Text) (s : Sizes) → Some n ≡ name → Some s ≡ sizes → Some (make n s) ≡ make_by name sizes
both_found name sizes n s named sized = ap (λ (o : Option Text). make_by o (Some s)) named ∙ ap (make_by name) sized

-- ---- a run

pub no_file : (name : Option Text) (workers turns ships resident : Option ℕ) → None ≡ name → None ≡ run_by name workers turns ships resident
no_file name workers turns ships resident h1 = grind (arith, common_steps, nat_tests)

pub all_given : (name : Option Text) (workers turns ships resident : Option ℕ) (n : Text) (w t s r : ℕ) → Some n ≡ name → Some w ≡ workers
    → Some t ≡ turns → Some s ≡ ships → Some r ≡ resident
    → Some (run n (record { workers = w; turns = t; ships = s; resident = r == 1 })) ≡ run_by name workers turns ships resident
all_given name workers turns ships resident n w t s r h1 h2 h3 h4 h5 = grind (arith, common_steps, nat_tests)

-- what `serve` asks for
pub nobody_served : (name : Option Text) (callers ships : Option ℕ) → None ≡ name → None ≡ serve_by name callers ships
nobody_served name callers ships h1 = grind (arith, common_steps, nat_tests)

pub served : (name : Option Text) (callers ships : Option ℕ) (n : Text) (c s : ℕ) → Some n ≡ name → Some c ≡ callers → Some s ≡ ships
    → Some (serve n c s) ≡ serve_by name callers ships
served name callers ships n c s h1 h2 h3 = grind (arith, common_steps, nat_tests)
