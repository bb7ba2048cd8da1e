-- A session whose source has lines alone, each with its end, for which there is room, ends at no line.
use Rattle.std.proofs.lemmas.Bool.Decides.{nat_tests}
use Rattle.std.proofs.lemmas.Grind.{common_steps}
use Rattle.std.specs.Prelude.{Bool, true, false, if◌then◌else◌}
use Rattle.std.proofs.Common.{
  ◌≡◌,
  ◌∙◌,
  ℕ,
  ◌<◌,
  ◌≤◌,
  inl,
  inr,
  List,
  [],
  ◌∷◌,
  ◌++◌,
  Option,
  Some,
  None,
  IfSome,
  length,
  refl,
  sym,
  ap,
  subst,
  arith,
  length-append,
}
use Rattle.std.specs.List.{All, AllByRecursion}
use Rattle.std.proofs.lemmas.List.Elements.{All-head}
use Rattle.blsm_model.specs.Book.{room_after, rows_given}
use Rattle.blsm_model.specs.Histories.{Object, IsAnswer, answer_to_get, answer_to_next, answer_to_release, is_met, looked_at, object_after}
use Rattle.blsm_model.specs.Legal.{FollowsOn, IsLegal, Limits, MayReply}
use Rattle.blsm_model.specs.Scripts.{rows_of}
use Rattle.blsm_model.specs.Values.{value_at}
use Rattle.blsm_model.specs.declared.history.Entry.{Entry}
use Rattle.blsm_model.specs.declared.history.Line.{Line}
use Rattle.blsm_model.specs.declared.history.Reply.{Reply}
use Rattle.blsm_model.specs.declared.history.Reply.TheVariants as reply
use Rattle.blsm_model.specs.declared.key.Key.{Key}
use Rattle.blsm_model.specs.declared.op.Op.{Op}
use Rattle.blsm_model.specs.declared.op.Op.TheVariants.{Put, Add, Tail, Del, New, Swap, Get, Hold, Next, Release, Work}
use Rattle.blsm_model.specs.declared.room.Room.{Room}
use Rattle.blsm_model.specs.declared.row.Row.{Row}
use Rattle.blsm_model.specs.declared.row.Value.{Value}
use Rattle.script_text.specs.Grammar.{IsAllowed, IsLine, first_line, line_text, lines_text}
use Rattle.script_text.proofs.GrammarLaws.{first_spelled, has_end, lines_go_on, only_first}
use Rattle.store_serve.specs.Room.{HasRoomForLine}
use Rattle.store_serve.specs.Taken.{BeginsWithNone, BeginsWithoutRoom, TakesLines, TookBytes, lines_in, room_left}
use Rattle.store_serve.specs.declared.closing.Closing.{Closing}
use Rattle.store_serve.specs.declared.closing.Closing.TheVariants.{BadLine, NoRoom}
use Rattle.text_io.specs.Lines.{line_end}
use Rattle.text_io.specs.Text.{SourceState}
use Rattle.tree_session.specs.Lines.{HasRoomFor}
use Rattle.tree_session.proofs.RunLemmas.{room_next, room_then, rows_next}

-- ---- a reply gives no more rows than its command asks for

abbrev AsksFor : Entry → Type 0
AsksFor e = length (rows_given e.reply) ≤ rows_of e.op

get_gives : (value : Option Value) (rows : List Row) → reply.Rows rows ≡ answer_to_get value → ⊥
get_gives None rows is = cc
get_gives (Some value) rows is = cc

next_gives : (held : Option (List Row)) (n : ℕ) (rows : List Row) → reply.Rows rows ≡ answer_to_next n held → length rows ≤ n
next_gives None n rows is = absurd cc
next_gives (Some held) n rows h1 = grind (arith, common_steps, nat_tests)

drop_gives : (held : Option (List Row)) (rows : List Row) → reply.Rows rows ≡ answer_to_release held → ⊥
drop_gives None rows is = cc
drop_gives (Some held) rows is = cc

write_gives : (met : Bool) (found : Option Value) (rows : List Row) → reply.Rows rows ≡ (if met then reply.Done else reply.Kept found) → ⊥
write_gives true found rows is = cc
write_gives false found rows is = cc

rows_asked_for : (object : Object) (seat : ℕ) (op : Op) (rows : List Row) → IsAnswer object seat op (reply.Rows rows) → length rows ≤ rows_of op
rows_asked_for object seat (Put key value) rows is = absurd cc
rows_asked_for object seat (Add key count) rows is = absurd cc
rows_asked_for object seat (Tail key tail) rows is = absurd cc
rows_asked_for object seat (Del key) rows is = absurd cc
rows_asked_for object seat (New key value) rows is =
    absurd (write_gives (is_met (New key value) (value_at object.writes)) (looked_at (New key value) (value_at object.writes)) rows is)
rows_asked_for object seat (Swap key count value) rows is =
    absurd (write_gives (is_met (Swap key count value) (value_at object.writes)) (looked_at (Swap key count value) (value_at object.writes)) rows is)
rows_asked_for object seat (Get key) rows is = absurd (get_gives (value_at object.writes key) rows is)
rows_asked_for object seat (Hold low high) rows is = absurd cc
rows_asked_for object seat (Next n) rows is = next_gives (object.held seat) n rows is
rows_asked_for object seat Release rows is = absurd (drop_gives (object.held seat) rows is)
rows_asked_for object seat (Work n) rows (k, few, is) = absurd cc

asks_for : (limits : Limits) (opening : List (Key × Value)) (before : List Entry) (seat : ℕ) (op : Op) (r : Reply) → MayReply limits opening before seat op r → length (rows_given r) ≤ rows_of op
asks_for limits opening before seat op (reply.Rows rows) may = rows_asked_for (object_after opening before) seat op rows may.1
asks_for limits opening before seat op reply.Done may = omega arith
asks_for limits opening before seat op (reply.Is value) may = omega arith
asks_for limits opening before seat op reply.Absent may = omega arith
asks_for limits opening before seat op (reply.Kept found) may = omega arith
asks_for limits opening before seat op reply.Held may = omega arith
asks_for limits opening before seat op reply.NoHold may = omega arith
asks_for limits opening before seat op (reply.Did turns) may = omega arith
asks_for limits opening before seat op (reply.Full charge) may = omega arith
asks_for limits opening before seat op reply.NoMemory may = omega arith
asks_for limits opening before seat op reply.FaultLost may = omega arith
asks_for limits opening before seat op reply.FaultUnsure may = omega arith
asks_for limits opening before seat op reply.Fault may = omega arith
asks_for limits opening before seat op (reply.Damaged page) may = omega arith
asks_for limits opening before seat op (reply.Stopped why) may = omega arith

all_ask : (limits : Limits) (opening : List (Key × Value)) (before entries : List Entry) → FollowsOn limits opening before entries → AllByRecursion AsksFor entries
all_ask limits opening before [] follow = tt
all_ask limits opening before (e ∷ es) (may, follow) = (asks_for limits opening before e.seat e.op e.reply may, all_ask limits opening (before ++ e ∷ []) es follow)

-- ---- the next line has room

room_after_all : (room : Room) (entries : List Entry) (more : List Line) → AllByRecursion AsksFor entries → HasRoomFor room (lines_in entries ++ more) → HasRoomFor (room_left room entries) more
room_after_all room [] more ask has = has
room_after_all room (e ∷ es) more (few, ask) has = room_after_all (room_after room e) es more ask (room_then room (record { seat = e.seat; op = e.op }) (lines_in es ++ more) e refl few has)

-- ---- the rest of such a source is such lines

record GoesOn (room : Room) (entries : List Entry) (rest : List ℕ) : Type 0 where
  pub more : List Line
  pub allowed : All IsAllowed more
  pub is : rest ≡ lines_text more
  pub room_is : HasRoomFor (room_left room entries) more

goes_on : (room : Room) (lines : List Line) (entries : List Entry) (rest : List ℕ) → All IsAllowed lines → HasRoomFor room lines → AllByRecursion AsksFor entries → All IsAllowed (lines_in entries) → lines_text lines ≡ lines_text (lines_in entries) ++ rest
    → GoesOn room entries rest
goes_on room lines entries rest allowed has ask done is =
    let (more, all, allowed_more, rest_is) = lines_go_on (lines_in entries) lines rest done allowed is in
    record { more = more; allowed = allowed_more; is = rest_is; room_is = room_after_all room entries more ask (subst (λ (ls : List Line). HasRoomFor room ls) all has) }

-- it begins with a line, if with any
not_none : (more : List Line) (rest : List ℕ) → All IsAllowed more → rest ≡ lines_text more → 0 < length rest → BeginsWithNone rest → ⊥
not_none [] rest allowed is some none = omega (arith, ap (λ (l : List ℕ). length l) is)
not_none (z ∷ zs) rest allowed is some (inl lacks) = has_end z zs (subst (λ (l : List ℕ). All (λ (byte : ℕ). (byte ≡ 10 → ⊥)) l) is lacks)
not_none (z ∷ zs) rest allowed is some (inr none) = none z (subst (λ (l : List ℕ). IsLine (first_line l) z) (sym is) (first_spelled z zs (All-head IsAllowed z zs allowed)))

-- which has room
not_full : (room : Room) (more : List Line) (rest : List ℕ) → All IsAllowed more → HasRoomFor room more → rest ≡ lines_text more → BeginsWithoutRoom room rest → ⊥
not_full room [] rest allowed has is full = omega (arith, ap (λ (l : List ℕ). length l) (sym is ∙ full.split), length-append (line_text full.line) (line_end ∷ full.behind))
not_full room (z ∷ zs) rest allowed has is full =
    let ok = All-head IsAllowed z zs allowed in
    let same : full.line ≡ z = only_first z zs full.line full.behind ok full.allowed (sym is ∙ full.split) in
    full.full (subst (λ (l : Line). HasRoomForLine room l) (sym same) (room_next room z zs ok.seat has, rows_next room z zs ok.seat has))

module _ (limits : Limits) (opening : List (Key × Value)) (room : Room) (lines : List Line) (allowed : All IsAllowed lines) (has : HasRoomFor room lines) (entries : List Entry) (legal : IsLegal limits opening entries) (old new : SourceState)
    (told : old.left ≡ Some (lines_text lines)) where
  rests : (closing : Closing) (takes : TakesLines entries closing room old new) → (took : TookBytes entries closing room (lines_text lines) new.left) × GoesOn room entries took.rest
  rests closing takes =
      let took = subst (λ (o : Option (List ℕ)). IfSome o (λ left. TookBytes entries closing room left new.left)) told takes.bytes in
      (took, goes_on room lines entries took.rest allowed has (all_ask limits opening [] entries legal) takes.allowed took.split)

  -- it didn't end by a bad line, or for want of room
  pub no_bad_line : (n : ℕ) → TakesLines entries (BadLine n) room old new → ⊥
  no_bad_line n takes =
      let (took, on) = rests (BadLine n) takes in
      not_none on.more took.rest on.allowed on.is took.stops.why.1 took.stops.why.2

  pub no_full : (n : ℕ) → TakesLines entries (NoRoom n) room old new → ⊥
  no_full n takes =
      let (took, on) = rests (NoRoom n) takes in
      not_full (room_left room entries) on.more took.rest on.allowed on.room_is on.is took.stops.why.1
