-- `cases_read::answer_held` meets its contract: each record lies behind the one before, and its text in the buffer.
-- Assumes nothing.
use Rattle.std.proofs.Common.{◌-◌, length, sym, ◌∙◌, arith, length-take, length-drop}
use borrow.Rule.Slice.PartMut.{same_len_mid}
use Rattle.programs.proofs.Batches.{turn_inside}
use Rattle.cases_read.proofs.answer_held.Goals as goal

pub overflow_add-used : goal.overflow_add-used
overflow_add-used g c =
    let t = turn_inside _ _ _ _ _ (sym c.read_record.ensures.turn ∙ c.in-Ok.is) in
    omega (arith, simp (length-take, length-drop) at t.0)

pub overflow_add-put : goal.overflow_add-put
overflow_add-put g c =
    let t = turn_inside _ _ _ _ _ (sym c.read_record.ensures.turn ∙ c.in-Ok.is) in
    omega (arith, simp (length-take, length-drop) at t.1)

pub loop-records-preserved : goal.loop-records-preserved
loop-records-preserved g c =
    let t = turn_inside _ _ _ _ _ (sym c.read_record.ensures.turn ∙ c.in-Ok.is) in
    let k = same_len_mid c.in_ok-put.put (length c.loop-records.out - c.in_ok-put.put) c.loop-records.out c.read_record.new.out c.read_record.auto.out in
    record {
      used = omega (arith, simp (length-take, length-drop) at t.0);
      put = omega (arith, k, simp (length-take, length-drop) at t.1);
    }
