-- `programs_writing::four_bytes` meets its contract: two numbers of two bytes.
-- Assumes nothing.
use Rattle.programs_writing.proofs.Cells.{four_is}
use Rattle.programs_writing.proofs.four_bytes.Goals as goal

pub returns : goal.returns
returns c = four_is (c.args.bytes.now) (c.two_bytes.ensures.number, c.two_bytes.ensures.small) (c.two_bytes-2.ensures.number, c.two_bytes-2.ensures.small)
