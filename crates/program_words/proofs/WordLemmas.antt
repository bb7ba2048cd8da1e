-- What a request made of clap's matches says of its reading of the words.
use Rattle.std.proofs.lemmas.Bool.Decides.{nat_tests}
use Rattle.std.proofs.lemmas.Grind.{common_steps}
use Rattle.std.proofs.Common.{◌≡◌, List, [], Option, Some, Ok, IsSome, option_map, true, refl, sym, subst, arith}
use Rattle.clap.specs.Words.{Text, fault_of, is_simple}
use Rattle.clap.specs.Faults.{is_simple_and_free}
use Rattle.clap.proofs.OnLiterals.{clap_on_literals}
use Rattle.program_words.specs.declared.request.Request.{Request}
use Rattle.program_words.specs.Words.{program, asked_by, asked_of, ReadsWords}

pub program_is_simple : is_simple program ≡ true
unfolding clap_on_literals
program_is_simple = refl

pub program_is_free : is_simple_and_free program ≡ true
unfolding clap_on_literals
program_is_free = refl

abbrev pub paired : {X A B : Type 0} (f : X → A) (g : X → B) → X → A × B
paired f g x = (f x, g x)

-- a command is known by its name and by what was found for it
pub both_known : {X A B : Type 0} (f : X → A) (g : X → B) (met : Option X) (a : A) (b : B) → Some a ≡ option_map f met
    → Some b ≡ option_map (λ (p : A × B). p.1) (option_map (paired f g) met) → Some (a, b) ≡ option_map (paired f g) met
both_known f g met a b h1 h2 = grind (arith, common_steps, nat_tests)

pub reads : (words : List Text) (request : Request) → fault_of program words ≡ [] → asked_by words ≡ Some (asked_of request) → ReadsWords words (Ok request)
reads words request calm is = ((calm, subst IsSome (sym is) refl), is)
