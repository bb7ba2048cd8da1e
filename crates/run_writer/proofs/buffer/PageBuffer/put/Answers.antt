use Rattle.std.proofs.Common.{◌≡◌, ◌∙◌, ◌+◌, ap, arith}
use Rattle.std.proofs.Common.{List, ℕ, ◌++◌, take, drop}
use Rattle.entry_codec.specs.Spelling.{spelling}
use Rattle.run_writer.specs.Buffer.{BufferState, with_entry}
use Rattle.run_writer.proofs.BufferLemmas.{text_more}
use Rattle.run_writer.proofs.buffer.PageBuffer.put.Goals as goal

pub returns-clause-put : goal.returns-clause-put
returns-clause-put c =
    let key = c.args.key.now in
    let rec = c.args.rec.now in
    let s : List ℕ = spelling key rec in
    let used = c.self.inside.used in
    let out : List ℕ = c.spell-length.new.out in
    let text : take (used + c.spell-length.result) (drop 8 out) ≡ take used (drop 8 c.self.inside.page) ++ s =
    ap (λ (n : ℕ). take (used + n) (drop 8 out)) c.spell-length.ensures.len
    ∙ text_more c.self.inside.page out s used _ (omega (arith, c.self.told, c.self.invariant.fits)) c.spell-length.ensures.written in
    (λ i. record { count = c.self.inside.count + 1; text = text i }) ∙ ap (λ (b : BufferState). with_entry key rec b) c.self.view_is
