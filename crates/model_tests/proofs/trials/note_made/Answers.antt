use Rattle.std.proofs.Common.{subst, sym}
use Rattle.std.specs.List.{All}
use Rattle.std.proofs.lemmas.List.Elements.{All-push}
use Rattle.blsm_model.specs.declared.history.Entry.{Entry}
use Rattle.blsm_model.specs.Book.{Book}
use Rattle.script_text.specs.Generated.{HasMadeKeys}
use Rattle.model_tests.proofs.trials.note_made.Goals as goal

pub returns : goal.returns
returns g c =
    subst (λ (book : Book). All (λ (e : Entry). HasMadeKeys e.op) book.entries) (sym c.note.ensures)
    (All-push (λ (e : Entry). HasMadeKeys e.op) c.args.annals.now.entries _ c.requires.old c.requires.entry)
