use Rattle.std.proofs.Common.{◌≡◌, ◌+◌, ℕ, Option, Some, None, List, ◌++◌, take, drop, IfSome, sym, ◌∙◌, ap, subst, append_assoc, arith, length-drop}
use Rattle.std.proofs.lemmas.List.{take_rest}
use Rattle.std.proofs.Math.Seq.{take-add}
use Rattle.text_io.specs.Text.{Takes}
use Rattle.text_io.proofs.whole.write_all.Goals as goal

-- a front, and then the front of the rest
written_more : (start mid new : Option (List ℕ)) (bytes : List ℕ) (i n : ℕ) → IfSome start (λ held. mid ≡ Some (held ++ take i bytes)) → IfSome mid (λ held. new ≡ Some (held ++ take n (drop i bytes)))
    → IfSome start (λ held. new ≡ Some (held ++ take (i + n) bytes))
written_more None mid new bytes i n first second = tt
written_more (Some held) mid new bytes i n first second =
    let whole : new ≡ Some ((held ++ take i bytes) ++ take n (drop i bytes)) = subst (λ (m : Option (List ℕ)). IfSome m (λ h. new ≡ Some (h ++ take n (drop i bytes)))) first second in
    whole ∙ ap (λ (l : List ℕ). Some l) (append_assoc held (take i bytes) (take n (drop i bytes)) ∙ ap (λ (l : List ℕ). held ++ l) (sym (take-add i n bytes)))

pub loop-done-preserved : goal.loop-done-preserved
loop-done-preserved g c =
    let rest = take_rest c.args.bytes.now c.loop-done.done in
    let takes = subst (λ (l : List ℕ). Takes (g.K.Sink.state c.loop-done.sink).held (g.K.Sink.state c.write.new.self).held l c.in_ok-done.field-0) rest c.in_ok-done.ensures.takes in
    record {
      in_range = omega (arith, takes.within, length-drop c.loop-done.done c.args.bytes.now);
      written = written_more _ _ _ c.args.bytes.now c.loop-done.done c.in_ok-done.field-0 c.loop-done.invariant.written takes.bytes;
      calm = c.in_ok-done.ensures.calm ∙ c.loop-done.invariant.calm;
    }
