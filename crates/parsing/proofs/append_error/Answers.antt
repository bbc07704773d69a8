-- `parsing::append_error` meets its contract: a sentence for each error.
-- Assumes nothing.
use mathlib.Core.Path.{sym, ap}
use native.Mathlib.Omega.{arith}
use lib.ListN.{length}
use Rattle.printing.specs.Texts.{ascii}
use Rattle.printing.proofs.Appending.{same_text}
use Rattle.std.specs.Prelude.{Err}
use Rattle.parsing.specs.Complaints.{complaint}
use Rattle.parsing.specs.declared.ParseError.{ParseError}
use Rattle.parsing.proofs.Complaints.{no_edition_short, no_number_short, out_of_range_short, no_room_short}
use Rattle.parsing.proofs.append_error.Goals as goal

pub returns-in-NoEdition : goal.returns-in-NoEdition
unfolding complaint ascii
returns-in-NoEdition c = let e = c.in-NoEdition.is in
    record { text = same_text (sym (ap (λ (p : ParseError). complaint (Err p)) e)) c.append.ensures; room = omega (arith, no_edition_short, ap (λ (p : ParseError). length (complaint (Err p))) e) }

pub returns-in-NoNumber : goal.returns-in-NoNumber
unfolding complaint ascii
returns-in-NoNumber c = let e = c.in-NoNumber.is in
    let n = c.in-NoNumber.line in
    let short = no_number_short n (omega arith) in
    record { text = same_text (sym (ap (λ (p : ParseError). complaint (Err p)) e)) c.append_sentence.ensures; room = omega (arith, short, ap (λ (p : ParseError). length (complaint (Err p))) e) }

pub returns-in-OutOfRange : goal.returns-in-OutOfRange
unfolding complaint ascii
returns-in-OutOfRange c = let e = c.in-OutOfRange.is in
    let n = c.in-OutOfRange.line in
    let short = out_of_range_short n (omega arith) in
    record { text = same_text (sym (ap (λ (p : ParseError). complaint (Err p)) e)) c.append_sentence-in-OutOfRange.ensures; room = omega (arith, short, ap (λ (p : ParseError). length (complaint (Err p))) e) }

pub returns-in-NoRoom : goal.returns-in-NoRoom
unfolding complaint ascii
returns-in-NoRoom c = let e = c.in-NoRoom.is in
    let n = c.in-NoRoom.needed in
    let short = no_room_short n (omega arith) in
    record { text = same_text (sym (ap (λ (p : ParseError). complaint (Err p)) e)) c.append_sentence-in-NoRoom.ensures; room = omega (arith, short, ap (λ (p : ParseError). length (complaint (Err p))) e) }
