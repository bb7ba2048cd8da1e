-- What tails make of a value, worked out. Beside each history stands one that is refused.
use Rattle.std.proofs.Common.{◌≡◌, ℕ, List, [], ◌∷◌, ◌++◌, refl, ap, codes, replicate, arith}
use Rattle.blsm_model.specs.declared.op.Op.{Op}
use Rattle.blsm_model.specs.declared.op.Op.TheVariants.{Put, Add, Tail, Del, Get}
use Rattle.std.specs.Prelude.{slice_index}
use Rattle.blsm_model.specs.declared.history.Reply.{Reply}
use Rattle.blsm_model.specs.declared.history.Reply.TheVariants.{Done, Is, Absent}
use Rattle.blsm_model.specs.declared.history.Entry.{Entry}
use Rattle.blsm_model.specs.Legal.{IsLegal}
use Rattle.blsm_model.proofs.ExampleWords.{a, by, of, fresh, told}

-- two commands, and then what a get answers
abbrev two_then : Op → Op → ℕ → List ℕ → List Entry
two_then first second count text = by 0 first Done ∷ by 0 second Done ∷ by 0 (Get a) (Is (of count text)) ∷ []

-- the first byte of the text that a get answers
abbrev first_told : Reply → ℕ
first_told (Is value) = slice_index value.text 0
first_told _ = 0

-- a tail stands behind the text of a put, and leaves its count
tail_over_put : IsLegal fresh [] (two_then (Put a (of 5 (codes "hello"))) (Tail a (codes "world")) 5 (codes "helloworld"))
tail_over_put = ((refl, refl), ((refl, refl), ((refl, refl), tt)))

tail_before_text : IsLegal fresh [] (two_then (Put a (of 5 (codes "hello"))) (Tail a (codes "world")) 5 (codes "worldhello")) → ⊥
tail_before_text legal = let wrong : Is (of 5 (codes "worldhello")) ≡ Is (of 5 (codes "helloworld")) = legal.1.1.0.1 in absurd (omega (arith, ap first_told wrong))

-- of a longer text the last 64 bytes stay, those of the tail among them
abbrev xs : ℕ → List ℕ
xs n = replicate n 120

tail_over_long_text : IsLegal fresh [] (two_then (Put a (of 0 (xs 70))) (Tail a (codes "y")) 0 (xs 63 ++ codes "y"))
tail_over_long_text = ((refl, refl), ((refl, refl), ((refl, refl), tt)))

whole_text_kept : IsLegal fresh [] (two_then (Put a (of 0 (xs 70))) (Tail a (codes "y")) 0 (xs 70 ++ codes "y")) → ⊥
whole_text_kept legal = let wrong : Is (of 0 (xs 70 ++ codes "y")) ≡ Is (of 0 (xs 63 ++ codes "y")) = legal.1.1.0.1 in absurd (omega (arith, ap told wrong))

-- without a tail a long text stays as it is
long_text_stays : IsLegal fresh [] (two_then (Put a (of 0 (xs 70))) (Add a 3) 3 (xs 70))
long_text_stays = ((refl, refl), ((refl, refl), ((refl, refl), tt)))

-- a tail on an absent key makes it present, with the count 0, and adds and tails leave each other
tail_over_del : IsLegal fresh [] (by 0 (Del a) Done ∷ by 0 (Tail a (codes "z")) Done ∷ by 0 (Add a 3) Done ∷ by 0 (Get a) (Is (of 3 (codes "z"))) ∷ [])
tail_over_del = ((refl, refl), ((refl, refl), ((refl, refl), ((refl, refl), tt))))

tail_lost_over_del : IsLegal fresh [] (by 0 (Del a) Done ∷ by 0 (Tail a (codes "z")) Done ∷ by 0 (Add a 3) Done ∷ by 0 (Get a) (Is (of 3 [])) ∷ []) → ⊥
tail_lost_over_del legal = let wrong : Is (of 3 []) ≡ Is (of 3 (codes "z")) = legal.1.1.1.0.1 in absurd (omega (arith, ap told wrong))

-- tails come in order
tail_over_tail : IsLegal fresh [] (two_then (Tail a (codes "one")) (Tail a (codes "two")) 0 (codes "onetwo"))
tail_over_tail = ((refl, refl), ((refl, refl), ((refl, refl), tt)))

newer_tail_first : IsLegal fresh [] (two_then (Tail a (codes "one")) (Tail a (codes "two")) 0 (codes "twoone")) → ⊥
newer_tail_first legal = let wrong : Is (of 0 (codes "twoone")) ≡ Is (of 0 (codes "onetwo")) = legal.1.1.0.1 in absurd (omega (arith, ap first_told wrong))

absent_after_tail : IsLegal fresh [] (by 0 (Tail a (codes "z")) Done ∷ by 0 (Get a) Absent ∷ []) → ⊥
absent_after_tail legal = let wrong : Absent ≡ Is (of 0 (codes "z")) = legal.1.0.1 in cc
