use Rattle.std.specs.Prelude.{ℕ, take, drop, length, slice_index_or}
use Rattle.std.proofs.Common.{◌≡◌, ◌∙◌, ◌+◌, ◌<◌, List, [], ◌∷◌, ◌++◌, refl, rules, ap, sym, subst, arith}
use Rattle.std.proofs.lemmas.List.{take_more, drop_more}
use Rattle.blsm_model.specs.Book.{Book}
use Rattle.blsm_model.specs.declared.history.Entry.{Entry}
use Rattle.blsm_model.specs.declared.history.Line.{Line}
use Rattle.blsm_model.specs.declared.room.Room.{Room}
use Rattle.tree_session.specs.Lines.{HasRoomFor}
use Rattle.tree_session.specs.Session.{Runs}
use Rattle.tree_session.proofs.BookLemmas.{core_places}
use Rattle.tree_session.proofs.RunLemmas.{places_then, room_next, room_then, rows_next, runs_more, runs_none}
use Rattle.tree_session.proofs.session.run_lines.Goals as goal

pub loop-line-init : goal.loop-line-init
loop-line-init g c = record {
  runs = runs_none g.D.Disk.state c.args.core.now c.requires.rests;
  places = core_places c.args.core.now.held (g.D.Disk.state c.args.core.now.disk) c.kept.ensures.core;
  left = c.requires.room;
}

-- the lines that are left begin with this one
left_is : (room : Room) (lines : List Line) (i : ℕ) (line : Line) → i < length lines → line ≡ slice_index_or lines i line → HasRoomFor room (drop i lines) → HasRoomFor room (line ∷ drop (i + 1) lines)
left_is room lines i line below is has = subst (λ (ls : List Line). HasRoomFor room ls) (drop_more lines i line below ∙ ap (λ (l : Line). l ∷ drop (i + 1) lines) (sym is)) has

pub perform-requires-clause-room : goal.perform-requires-clause-room
perform-requires-clause-room g c =
    let has = left_is c.loop-line.core.held.book.book.room c.args.lines.now c.loop-line.line-index c.line-item.result (omega arith) c.line-item.is c.loop-line.invariant.left in
    room_next c.loop-line.core.held.book.book.room c.line-item.result (drop (c.loop-line.line-index + 1) c.args.lines.now) (search rules) has

pub perform-requires-clause-rows : goal.perform-requires-clause-rows
perform-requires-clause-rows g c =
    let has = left_is c.loop-line.core.held.book.book.room c.args.lines.now c.loop-line.line-index c.line-item.result (omega arith) c.line-item.is c.loop-line.invariant.left in
    rows_next c.loop-line.core.held.book.book.room c.line-item.result (drop (c.loop-line.line-index + 1) c.args.lines.now) (search rules) has

pub loop-line-preserved : goal.loop-line-preserved
loop-line-preserved g c =
    let state = g.D.Disk.state in
    let lines = c.args.lines.now in
    let i = c.loop-line.line-index in
    let line = c.line-item.result in
    let old = c.args.core.now in
    let mid = c.loop-line.core in
    let new = c.perform.new.core in
    let did = c.perform.ensures in
    let below : i < length lines = omega arith in
    let entry : Entry = record { seat = line.seat; op = line.op; reply = did.reply } in
    let before = left_is mid.held.book.book.room lines i line below c.line-item.is c.loop-line.invariant.left in
    let more : take i lines ++ line ∷ [] ≡ take (i + 1) lines = ap (λ (l : Line). take i lines ++ l ∷ []) c.line-item.is ∙ sym (take_more lines i line below) in
    record {
      runs = subst (λ (ls : List Line). Runs state ls old new) more
          (runs_more state (take i lines) line old mid new c.loop-line.invariant.places (room_next mid.held.book.book.room line (drop (i + 1) lines) (search rules) before) c.loop-line.invariant.runs did);
      places = places_then state line mid new c.loop-line.invariant.places did;
      left = subst (λ (b : Book). HasRoomFor b.room (drop (i + 1) lines)) (sym did.annals) (room_then mid.held.book.book.room line (drop (i + 1) lines) entry refl did.rows before);
    }
