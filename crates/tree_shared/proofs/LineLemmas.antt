-- A caller goes over the lines of a script, and does its own.
use Rattle.std.proofs.Common.{◌≡◌, ◌≢◌, ◌∙◌, ⊎_elim, inl, inr, ℕ, suc, ◌+◌, ◌<◌, Bool, cond, ◌==◌, List, [], ◌∷◌, ◌++◌, length, map, filter, take, drop, eq-eqb, ne_eqb, refl, ap, sym, subst, arith}
use Rattle.std.specs.Prelude.{sum_by, slice_index_or}
use Rattle.std.proofs.lemmas.Bool.{cases_eq}
use Rattle.std.proofs.lemmas.List.{append-nil, drop_more, map-append, take_more}
use Rattle.std.proofs.lemmas.List.Elements.{filter-append}
use Rattle.std.proofs.lemmas.List.Sums.{sum_by-cons}
use Rattle.blsm_model.specs.Scripts.{lines_of, rows_of, rows_asked}
use Rattle.blsm_model.specs.declared.history.Entry.{Entry}
use Rattle.blsm_model.specs.declared.history.Line.{Line}
use Rattle.blsm_model.specs.declared.history.Reply.{Reply}
use Rattle.blsm_model.specs.declared.op.Op.{Op}
use Rattle.disk_trait.specs.Disk.{DiskState}
use Rattle.turn_lock.specs.Callers.{Held as Caller}
use Rattle.turn_lock.proofs.TurnLemmas.{went_then}
use Rattle.tree_core.specs.Calls.{CameSince}
use Rattle.tree_core.specs.Core.{CoreState}
use Rattle.tree_shared.specs.Seats.{Answered, DidOn, KnowsOf, IsFree, facts_of}
use Rattle.tree_shared.specs.Runs.{RanLines}
use Rattle.tree_shared.proofs.CommandLemmas.{frees_less}

lines_here : (n : ℕ) (line : Line) (rest : List Line) → line.seat ≡ n → lines_of n (line ∷ rest) ≡ line.op ∷ lines_of n rest
lines_here n line rest is = ap (λ (b : Bool). map (λ (l : Line). l.op) (cond b (line ∷ filter (λ (l : Line). l.seat == n) rest) (filter (λ (l : Line). l.seat == n) rest))) (eq-eqb line.seat n is)

lines_other : (n : ℕ) (line : Line) (rest : List Line) → line.seat ≢ n → lines_of n (line ∷ rest) ≡ lines_of n rest
lines_other n line rest not = ap (λ (b : Bool). map (λ (l : Line). l.op) (cond b (line ∷ filter (λ (l : Line). l.seat == n) rest) (filter (λ (l : Line). l.seat == n) rest))) (ne_eqb line.seat n not)

lines_both : (n : ℕ) (xs ys : List Line) → lines_of n (xs ++ ys) ≡ lines_of n xs ++ lines_of n ys
lines_both n xs ys = ap (map (λ (l : Line). l.op)) (filter-append (λ (l : Line). l.seat == n) xs ys) ∙ map-append (λ (l : Line). l.op) (filter (λ (l : Line). l.seat == n) xs) (filter (λ (l : Line). l.seat == n) ys)

-- After so many lines: its own ones were done, and there is room for the rest.
pub record Going {D : Type 0} (state : D → DiskState) (script : List Line) (i : ℕ) (c d : Caller (CoreState D)) : Type 0 where
  pub ran : RanLines state (take i script) c d
  pub free : KnowsOf (IsFree (length (lines_of c.number (drop i script))) (rows_asked c.number (drop i script))) d

module _ {D : Type 0} (state : D → DiskState) (script : List Line) (c : Caller (CoreState D)) where
  pub going_none : KnowsOf (IsFree (length (lines_of c.number script)) (rows_asked c.number script)) c → Going state script 0 c c
  going_none k = record { ran = record { entries = []; went = inl (refl, refl); ops = refl }; free = k }

  module _ (i : ℕ) (line : Line) (below : i < length script) (is : line ≡ slice_index_or script i line) where
    -- the lines that are left begin with this one, and those before it end with it
    rest_is : drop i script ≡ line ∷ drop (i + 1) script
    rest_is = drop_more script i line below ∙ ap (λ (l : Line). l ∷ drop (i + 1) script) (sym is)

    more_is : take i script ++ line ∷ [] ≡ take (i + 1) script
    more_is = ap (λ (l : Line). take i script ++ l ∷ []) is ∙ sym (take_more script i line below)

    taken : lines_of c.number (take (i + 1) script) ≡ lines_of c.number (take i script) ++ lines_of c.number (line ∷ [])
    taken = ap (lines_of c.number) (sym more_is) ∙ lines_both c.number (take i script) (line ∷ [])

    room_is : (d : Caller (CoreState D)) → Going state script i c d → line.seat ≡ c.number → KnowsOf (IsFree (length (lines_of c.number (drop (i + 1) script)) + 1) (rows_asked c.number (drop (i + 1) script) + rows_of line.op)) d
    room_is d going here =
        let ls = lines_of c.number (drop (i + 1) script) in
        let its : lines_of c.number (drop i script) ≡ line.op ∷ ls = ap (lines_of c.number) rest_is ∙ lines_here c.number line (drop (i + 1) script) here in
        let long : length (lines_of c.number (drop i script)) ≡ suc (length ls) = ap (λ (l : List Op). length l) its in
        let asked : rows_asked c.number (drop i script) ≡ rows_of line.op + sum_by rows_of ls = ap (λ (l : List Op). sum_by rows_of l) its ∙ sum_by-cons rows_of line.op ls in
        frees_less (length (lines_of c.number (drop i script))) (rows_asked c.number (drop i script)) (length ls + 1) (sum_by rows_of ls + rows_of line.op) d
        (omega (arith, long)) (omega (arith, asked)) going.free

    pub may_do : (d : Caller (CoreState D)) → Going state script i c d → line.seat ≡ c.number → KnowsOf (IsFree 1 (rows_of line.op)) d
    may_do d going here =
        frees_less (length (lines_of c.number (drop (i + 1) script)) + 1) (rows_asked c.number (drop (i + 1) script) + rows_of line.op) 1 (rows_of line.op) d (omega arith) (omega arith) (room_is d going here)

    going_done : (d e : Caller (CoreState D)) (entry : Entry) → Going state script i c d → line.seat ≡ c.number → entry.op ≡ line.op → DidOn state d (entry ∷ []) e
        → ((entries rows : ℕ) → KnowsOf (IsFree (entries + 1) (rows + rows_of line.op)) d → KnowsOf (IsFree entries rows) e) → Going state script (i + 1) c e
    going_done d e entry going here op did frees = record {
      ran = record {
        entries = going.ran.entries ++ entry ∷ [];
        went = inr (went_then facts_of (CameSince state) c d e going.ran.entries (entry ∷ []) going.ran.went did);
        ops = cc (map-append (λ (x : Entry). x.op) going.ran.entries (entry ∷ []), going.ran.ops, op, lines_here c.number line [] here, taken);
      };
      free = frees (length (lines_of c.number (drop (i + 1) script))) (rows_asked c.number (drop (i + 1) script)) (room_is d going here);
    }

    going_passed : (d : Caller (CoreState D)) → Going state script i c d → line.seat ≢ c.number → Going state script (i + 1) c d
    going_passed d going not = record {
      ran = record {
        entries = going.ran.entries;
        went = going.ran.went;
        ops = cc (going.ran.ops, append-nil (lines_of c.number (take i script)), lines_other c.number line [] not, taken);
      };
      free = subst (λ (ls : List Op). KnowsOf (IsFree (length ls) (sum_by rows_of ls)) d) (ap (lines_of c.number) rest_is ∙ lines_other c.number line (drop (i + 1) script) not) going.free;
    }

    -- whoever's it is
    pub going_on : (d e : Caller (CoreState D)) → d.number ≡ c.number → Going state script i c d → (line.seat ≢ d.number → e ≡ d) → (line.seat ≡ d.number → (reply : Reply) × Answered state line.op reply d e)
        → Going state script (i + 1) c e
    going_on d e same going others its = ⊎_elim
        (λ (here : line.seat ≡ c.number).
        let one = its (here ∙ sym same) in
        going_done d e (record { seat = d.number; op = line.op; reply = one.0 }) going here refl one.1.did one.1.free)
        (λ (other : line.seat ≢ c.number).
        subst (λ (h : Caller (CoreState D)). Going state script (i + 1) c h) (sym (others (λ (own : line.seat ≡ d.number). other (own ∙ same)))) (going_passed d going other))
        (cases_eq line.seat c.number)
