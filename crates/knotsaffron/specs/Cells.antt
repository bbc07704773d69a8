-- An answer as a caller in C gets it: cells in the order of document 01's rows, or one number.
use Rattle.std.specs.Prelude.{ℕ, ◌+◌, ◌*◌, cond, List, [], ◌∷◌, eqb, ℤ, pos}
use Rattle.answers.specs.GivenBack as number
use Rattle.answers.specs.declared.Answer.{Answer}
use Rattle.answers.specs.Answers.{ReadAnswer}
use Rattle.loss.specs.Ring.{Loss}
use Rattle.position.specs.Checked.{Resolved}
use Rattle.rules.specs.Ruling.{Ruling}
use Rattle.signals.specs.Verdict.{Verdict}
use Rattle.senders.specs.Table.{Shown}
use Rattle.parties.specs.Parties.{Answered}

-- reading: number, place, bits, cells, the row that 41 to 44 name (document 02, A2), how many bits of the field lack, with 3 (A6), the edition and the type number (A11)
abbrev pub read_cells : ReadAnswer → List ℕ
read_cells r = r.answer.number ∷ r.answer.place ∷ r.answer.bits ∷ r.answer.count ∷ r.answer.row ∷ r.answer.lacking ∷ r.edition ∷ r.type_number ∷ []

-- writing: number, place, bits, bytes. It names no row, and no bit lacks
abbrev pub written_cells : Answer → List ℕ
written_cells a = a.number ∷ a.place ∷ a.bits ∷ a.count ∷ []

-- the resolver: number, latitude, longitude
abbrev pub resolved_cells : Resolved → List ℤ
resolved_cells r = pos r.number ∷ r.latitude ∷ r.longitude ∷ []

-- the loss count: the messages missed in the lowest byte, the number above them. Both are below 256, so neither hides the other
abbrev pub loss_number : Loss → ℕ
loss_number l = l.number * 256 + l.missed

-- the RSI sending rules, the RSM sending profile and the check of a plan: number, place
abbrev pub ruling_cells : Ruling → List ℕ
ruling_cells r = r.number ∷ r.place ∷ []

-- the check of a signal message against a map: number, node, phase (document 02, A7)
abbrev pub verdict_cells : Verdict → List ℕ
verdict_cells v = v.number ∷ v.node ∷ v.phase ∷ []

-- the planner: number, place, the cells of the plan, with 8 those that are needed (document 02, A9)
abbrev pub planned_cells : Answer → List ℕ
planned_cells a = a.number ∷ a.place ∷ a.count ∷ []

-- a report to the loss table, or a drop from it: number, row within the party, which is 0 with any number but 0
abbrev pub changed_cells : Answered → List ℕ
changed_cells a = a.number ∷ a.row ∷ []

-- a row of the loss table: number, kind, first count, last count, received, missed. With 28 no sender stands there, with 29 no such party is, and
-- the other cells are 0
abbrev pub shown_cells : Shown → List ℕ
shown_cells s = s.number ∷ s.sender.kind ∷ s.sender.first ∷ s.sender.last ∷ s.sender.received ∷ s.sender.missed ∷ []

-- the lent bytes of an id behind the showing of a row: the sender's eight bytes, or the bytes as they were where none is shown
abbrev pub shown_id : Shown → List ℕ → List ℕ
shown_id s id = cond (eqb s.number number.done) s.sender.id id
