use Rattle.std.proofs.Common.{◌∙◌, refl}
use Rattle.run_cursor.proofs.RebuildLemmas.{adding_done, adding_more, adding_none, fewer_left}
use Rattle.run_cursor.proofs.guides.add_keys.Goals as goal

pub loop-key-init : goal.loop-key-init
loop-key-init c = record {
  reserved = refl;
  bits = refl;
  adding = λ keys entries has each is. adding_none keys entries c.args.filter.now c.args.bytes.now has each is;
}

pub loop-key-smaller : goal.loop-key-smaller
loop-key-smaller c = fewer_left c.loop-key.rest.now c.in-Some.key c.in-Some.behind.now c.in-Some.ensures.found

pub loop-key-preserved : goal.loop-key-preserved
loop-key-preserved c =
    let inv = c.loop-key.invariant in
    record {
      reserved = c.add.ensures.reserved ∙ inv.reserved;
      bits = c.add.ensures.bits ∙ inv.bits;
      adding = λ keys entries has each is.
          adding_more keys entries c.loop-key.filter c.add.new.self c.loop-key.rest.now c.in-Some.key c.in-Some.behind.now (inv.adding keys entries has each is) c.in-Some.ensures.found c.add.ensures.keys;
    }

pub returns-clause-keys : goal.returns-clause-keys
returns-clause-keys c = λ keys entries has each is. adding_done keys entries c.loop-key.filter c.loop-key.rest.now (c.loop-key.invariant.adding keys entries has each is) c.in_default.ensures.none
