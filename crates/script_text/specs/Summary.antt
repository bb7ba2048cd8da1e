-- The summary of a run of a script that was made: what was asked, what was refused, what it cost and what it left.
use Rattle.std.specs.Prelude.{◌≡◌, ℕ, ◌+◌, ◌<◌, max, Bool, true, false, if◌then◌else◌, List, [], ◌∷◌, ◌++◌, length, codes, slice_index_or, is_some, count_by}
use Rattle.blsm_model.specs.declared.op.Write.{Write}
use Rattle.blsm_model.specs.declared.op.Op.{Op}
use Rattle.blsm_model.specs.declared.op.Op.TheVariants.{Put, Add, Del, Get}
use Rattle.blsm_model.specs.declared.history.Reply.{Reply}
use Rattle.blsm_model.specs.declared.history.Reply.TheVariants.{Full}
use Rattle.blsm_model.specs.declared.history.Entry.{Entry}
use Rattle.blsm_model.specs.declared.history.Totals.{Totals}
use Rattle.blsm_model.specs.Geometry.{work_bound}
use Rattle.blsm_model.specs.Sizes.{default_sizes}
use Rattle.blsm_model.specs.Values.{value_at}
use Rattle.blsm_model.specs.Rows.{map_of}
use Rattle.blsm_model.specs.Histories.{map_after}
use Rattle.blsm_model.specs.Legal.{is_write}
use Rattle.blsm_model.specs.Printed.{and_number}
use Rattle.script_text.specs.Generated.{heaviest_made, key_at, key_count}
use Rattle.script_text.specs.declared.summary.Kind.{Kind}
use Rattle.script_text.specs.declared.summary.Kind.TheVariants as kind

-- whether an entry with such a command and such a reply is of the kind
abbrev pub is_of_kind : Kind → Op → Reply → Bool
is_of_kind kind.Puts (Put key value) reply = true
is_of_kind kind.Adds (Add key count) reply = true
is_of_kind kind.Dels (Del key) reply = true
is_of_kind kind.Gets (Get key) reply = true
is_of_kind kind.Full op (Full charge) = true
is_of_kind _ _ _ = false

abbrev pub is_of : Kind → Entry → Bool
is_of k e = is_of_kind k e.op e.reply

-- the quanta of an entry, where it is a write's
abbrev pub quanta_of_write : Entry → ℕ → ℕ
quanta_of_write e quanta = if is_write e.op then quanta else 0

-- the greatest quanta of a write's entry, 0 where there is none
abbrev pub most_quanta : List Entry → List ℕ → ℕ
most_quanta (e ∷ es) (quanta ∷ more) = max (quanta_of_write e quanta) (most_quanta es more)
most_quanta _ _ = 0

abbrev pub trial_line : ℕ → ℕ → List ℕ
trial_line seed count = codes "trial seed" ++ and_number seed ++ codes " count" ++ and_number count ++ 10 ∷ []

abbrev pub commands_line : List Entry → List ℕ
commands_line history =
    codes "puts" ++ and_number (count_by (is_of kind.Puts) history) ++ codes " adds" ++ and_number (count_by (is_of kind.Adds) history)
    ++ codes " dels" ++ and_number (count_by (is_of kind.Dels) history) ++ codes " gets" ++ and_number (count_by (is_of kind.Gets) history) ++ 10 ∷ []

abbrev pub full_line : List Entry → List ℕ
full_line history = codes "full" ++ and_number (count_by (is_of kind.Full) history) ++ 10 ∷ []

abbrev pub peak_line : Totals → List ℕ
peak_line t = codes "c0" ++ and_number t.peak ++ codes " of" ++ and_number t.high ++ 10 ∷ []

-- how many quanta a write that is made takes at most, at the default geometry
abbrev pub made_bound : ℕ
made_bound = work_bound default_sizes heaviest_made

abbrev pub largest_line : List Entry → List ℕ → List ℕ
largest_line history quanta = codes "largest q" ++ and_number (most_quanta history quanta) ++ codes " of" ++ and_number made_bound ++ 10 ∷ []

abbrev pub work_line : Totals → List ℕ
work_line t = codes "quanta" ++ and_number (t.callers + t.workers) ++ codes " swaps" ++ and_number t.passes ++ and_number t.deeps ++ 10 ∷ []

abbrev pub keys_line : List Entry → Totals → List ℕ
keys_line history t = codes "keys" ++ and_number (length (map_after [] history)) ++ codes " charge" ++ and_number t.charge ++ 10 ∷ []

-- of a history and its quanta, from an empty store on
abbrev pub summary_text : ℕ → ℕ → List Entry → List ℕ → Totals → List ℕ
summary_text seed count history quanta t =
    trial_line seed count ++ commands_line history ++ full_line history ++ peak_line t ++ largest_line history quanta ++ work_line t ++ keys_line history t

-- the flags say which of the generator's keys are present after these writes, and no other key is
pub record Tells (flags : List Bool) (writes : List Write) : Type 0 where
  pub all : length flags ≡ key_count
  pub each : (place : ℕ) → place < key_count → slice_index_or flags place false ≡ is_some (value_at writes (key_at place))
  pub present : count_by (λ flag. flag) flags ≡ length (map_of writes)
