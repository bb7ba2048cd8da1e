use Rattle.run_cursor.proofs.CursorLemmas.{at_front, step_over}
use Rattle.run_cursor.proofs.cursor.Cursor.step.Goals as goal

pub read_head-length-requires-clause-entry : goal.read_head-length-requires-clause-entry
read_head-length-requires-clause-entry c =
    let f = c.self.inside in
    at_front f.head f.page f.at f.end f.next f.pages f.entries f.weight f.is_front c.args.self.now c.self.invariant c.self.view_is c.requires

pub overflow_sub-self : goal.overflow_sub-self
overflow_sub-self c =
    let f = c.self.inside in
    let k = c.read_head-length in
    (step_over f.head k.new.head f.page f.at f.end f.next f.pages f.entries f.weight f.is_front c.args.self.now k.result c.self.told c.self.invariant c.self.view_is k.ensures).some

pub overflow_sub-self-2 : goal.overflow_sub-self-2
overflow_sub-self-2 c =
    let f = c.self.inside in
    let k = c.read_head-length in
    (step_over f.head k.new.head f.page f.at f.end f.next f.pages f.entries f.weight f.is_front c.args.self.now k.result c.self.told c.self.invariant c.self.view_is k.ensures).light

pub invariant_of-self : goal.invariant_of-self
invariant_of-self c =
    let f = c.self.inside in
    let k = c.read_head-length in
    (step_over f.head k.new.head f.page f.at f.end f.next f.pages f.entries f.weight f.is_front c.args.self.now k.result c.self.told c.self.invariant c.self.view_is k.ensures).kept

pub returns-clause-stepped : goal.returns-clause-stepped
returns-clause-stepped c =
    let f = c.self.inside in
    let k = c.read_head-length in
    (step_over f.head k.new.head f.page f.at f.end f.next f.pages f.entries f.weight f.is_front c.args.self.now k.result c.self.told c.self.invariant c.self.view_is k.ensures).stepped

pub returns-clause-rises : goal.returns-clause-rises
returns-clause-rises c =
    let f = c.self.inside in
    let k = c.read_head-length in
    (step_over f.head k.new.head f.page f.at f.end f.next f.pages f.entries f.weight f.is_front c.args.self.now k.result c.self.told c.self.invariant c.self.view_is k.ensures).rises
