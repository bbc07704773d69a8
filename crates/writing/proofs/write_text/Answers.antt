-- `writing::write_text` meets its contract: the bytes hold every message of so few cells.
-- Assumes nothing.
use native.Mathlib.Omega.{arith}
use Rattle.writing.proofs.Entry.{made_of, zero_stands, fresh_room}
use Rattle.writing.proofs.Texts.{text_room}
use Rattle.writing.proofs.write_text.Goals as goal

pub text-r-requires : goal.text-r-requires
text-r-requires c = zero_stands (c.args.sheet.now) 68 (omega arith) (omega (arith, c.requires))

pub hand_over-requires : goal.hand_over-requires
hand_over-requires c = λ few. omega (arith, text_room (c.args.sheet.now) (c.text-r.result) (c.requires) (c.text-r.ensures) (omega arith), fresh_room 68 (c.text-r.result) (c.text-r.new.out) (c.text-r.ensures) (omega arith))

pub returns : goal.returns
returns c = (c.hand_over.ensures) _ (made_of 129 (c.args.sheet.now) 68 (c.text-r.result) (omega arith) (c.text-r.ensures))
