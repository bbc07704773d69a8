-- What document 01 says that the program prints, computed from the definitions through the whole of reading; and lines of the rules program and of the losses program likewise.
-- Assumes nothing.
use mathlib.Core.List.{[], ◌∷◌}
use mathlib.Core.Path.{◌≡◌, refl}
use Rattle.bits.specs.Numbers.{val, to_bits, halvings}
use Rattle.bits.specs.Bytes.{bits_of}
use Rattle.types.specs.Shape.{last}
use Rattle.types.specs.Rows.{rows}
use Rattle.types.specs.Table.{type_at, type_by, body_of, fields_of, alts_of}
use Rattle.types.specs.Named.{named_row}
use Rattle.meaning.specs.Steps.{pure, prepend, and_then, ◌>>=◌, out_of}
use Rattle.meaning.specs.Walk.{walk, flags, fields, alternative, times}
use Rattle.meaning.specs.Reading.{within, part as bits_at, read_whole, judged, read_extension, unextended}
use Rattle.answers.specs.Answers.{lent_after}
use Rattle.meaning.specs.Messages.{read_answer, read_typed, cells_read}
use Rattle.meaning.specs.Writing.{write_above, write_whole, write_extension}
use Rattle.sheet.specs.Values.{has, part, parts_of, items_of, entries}
use Rattle.sheet.specs.Sole.{sole_by}
use Rattle.messages.specs.Message.{number_of, message_of, sole_message, message_in}
use Rattle.rules.specs.Rsi.{event_rule, sign_rule, first_broken, rsi_ruling, message_ruling, ruled}
use Rattle.printing.specs.Digits.{digits, signed}
use Rattle.printing.specs.Texts.{ascii, each, read_text}
use Rattle.programs.specs.Inputs.{input_text, program_text}
use Rattle.signals.specs.Signal.{nodes_of, nodes_in}
use Rattle.findings.specs.Found.{signal_found, kind_found, message_found, found, found_passes, in_force_after}
use Rattle.findings.specs.Lines.{ruling_line, verdict_line, found_text}
use Rattle.programs_checking.specs.Checks.{found_outcome, refused_outcome, answer_outcome, frame_outcome, record_outcome, counted, output_from, no_records}
use Rattle.records.specs.Records.{head_of, record_by, whole}
use Rattle.loss.specs.Ring.{missed_between, ring_formula}
use Rattle.senders.specs.Rows.{same_bytes, first_at, spot_in}
use Rattle.senders.specs.Table.{reported, shown}
use Rattle.parties.specs.Parties.{share_of, with_share, reported_by, shown_by}
use Rattle.origins.specs.Frame.{id_at, octets_of, message_origin, origin_in}
use Rattle.programs_losses.specs.Lines.{report_line, kind_word, sender_line, shown_line}
use Rattle.programs_losses.specs.Drives.{answer_change, answer_line, later, record_line, record_drive, row_lines}
use Rattle.programs_losses.specs.Drives as losses

pub record Examples : Type 0 where
  pub description : program_text (0x00 ∷ 0x01 ∷ 0x00 ∷ 0x20 ∷ 0x80 ∷ []) ≡ ascii "edition 1\naccepted 17 bits 3 cells\n0\n1\n65\n"
  pub outside : program_text (0x00 ∷ 0x00 ∷ 0x50 ∷ []) ≡ ascii "refused 43 at bit 1\n"
  pub no_type : program_text (0x00 ∷ []) ≡ ascii "refused 2 at bit 0\n"
  pub below_zero : program_text (0x00 ∷ 0x02 ∷ 0x08 ∷ 0x00 ∷ 0x7F ∷ 0xF0 ∷ []) ≡ ascii "edition 1\naccepted 28 bits 4 cells\n0\n0\n0\n-1\n"
  pub too_short : program_text (0x00 ∷ 0x01 ∷ 0x00 ∷ 0x20 ∷ []) ≡ ascii "refused 3 at bit 10\n"

pub examples : Examples
unfolding val to_bits halvings bits_of last rows type_at type_by body_of fields_of alts_of named_row pure prepend and_then ◌>>=◌ times walk flags fields alternative within bits_at read_whole judged read_extension unextended read_answer read_typed cells_read out_of lent_after digits signed ascii each read_text input_text
examples = record { description = refl; outside = refl; no_type = refl; below_zero = refl; too_short = refl }

-- the frames of the last two have a message count of 5, an id of zeros and a position; the last has one event, of type 401, with nothing optional
pub record Checks : Type 0 where
  pub no_bytes : (frame_outcome [] []).line ≡ ascii "refused 3 at bit 0\n"
  pub outside : (frame_outcome [] (0x50 ∷ [])).line ≡ ascii "refused 43 at bit 1\n"
  pub extended : (frame_outcome [] (0x80 ∷ [])).line ≡ ascii "refused 5 at bit 0\n"
  pub neither_list : (frame_outcome [] (0x40 ∷ 0x0A ∷ 0 ∷ 0 ∷ 0 ∷ 0 ∷ 0 ∷ 0 ∷ 0 ∷ 0 ∷ 0x9A ∷ 0xDA ∷ 0x55 ∷ 0x81 ∷ 0x61 ∷ 0x37 ∷ 0x95 ∷ 0x7E ∷ [])).line ≡ ascii "passes\n"
  pub no_position : (frame_outcome [] (0x42 ∷ 0x0A ∷ 0 ∷ 0 ∷ 0 ∷ 0 ∷ 0 ∷ 0 ∷ 0 ∷ 0 ∷ 0x9A ∷ 0xDA ∷ 0x55 ∷ 0x81 ∷ 0x61 ∷ 0x37 ∷ 0x95 ∷ 0x7E ∷ 0 ∷ 0 ∷ 0x20 ∷ 0x32 ∷ 0x28 ∷ [])).line ≡ ascii "12 event 0 has no eventPos\n"
  pub nothing : output_from 9 no_records [] [] ≡ ascii "0 records, 0 pass\n"
  pub cut : output_from 9 no_records [] (0x00 ∷ []) ≡ ascii "refused 3 at bit 0\n1 records, 0 pass\n"
  pub two : output_from 9 no_records [] (0x00 ∷ 0x01 ∷ 0x50 ∷ 0x00 ∷ 0x12 ∷ 0x40 ∷ 0x0A ∷ 0 ∷ 0 ∷ 0 ∷ 0 ∷ 0 ∷ 0 ∷ 0 ∷ 0 ∷ 0x9A ∷ 0xDA ∷ 0x55 ∷ 0x81 ∷ 0x61 ∷ 0x37 ∷ 0x95 ∷ 0x7E ∷ []) ≡ ascii "refused 43 at bit 1\npasses\n2 records, 1 pass\n"

pub checks : Checks
unfolding val to_bits halvings bits_of last rows type_at type_by body_of fields_of alts_of named_row pure prepend and_then ◌>>=◌ times walk flags fields alternative within bits_at read_whole judged read_extension unextended read_answer read_typed cells_read out_of lent_after write_above write_whole write_extension digits signed ascii each read_text has part parts_of items_of entries event_rule sign_rule first_broken rsi_ruling sole_by message_of sole_message message_in message_ruling ruled ruling_line verdict_line found_text signal_found kind_found message_found found found_passes in_force_after nodes_of nodes_in found_outcome refused_outcome answer_outcome record_outcome head_of record_by whole counted output_from
checks = record { no_bytes = refl; outside = refl; extended = refl; neither_list = refl; no_position = refl; nothing = refl; cut = refl; two = refl }

-- the line that document 02's page of lines has for its example; and outputs whose two frames are RSIs with the counts 5 and 9 and an id of zeros
pub record Losses : Type 0 where
  pub line : sender_line 0 (record { id = 1 ∷ 2 ∷ 3 ∷ 4 ∷ 5 ∷ 6 ∷ 7 ∷ 8 ∷ []; kind = 0; first = 5; last = 9; received = 3; missed = 2 }) ≡ ascii "row 0 BSM 0102030405060708 first 5 last 9 received 3 missed 2\n"
  pub nothing : losses.output_from 9 losses.no_records [] ≡ ascii "0 records, 0 counted\n"
  pub cut : losses.output_from 9 losses.no_records (0x00 ∷ []) ≡ ascii "record 0 refused 3 at bit 0\n1 records, 0 counted\n"
  pub counted : losses.output_from 9 losses.no_records (0x00 ∷ 0x12 ∷ 0x40 ∷ 0x0A ∷ 0 ∷ 0 ∷ 0 ∷ 0 ∷ 0 ∷ 0 ∷ 0 ∷ 0 ∷ 0x9A ∷ 0xDA ∷ 0x55 ∷ 0x81 ∷ 0x61 ∷ 0x37 ∷ 0x95 ∷ 0x7E ∷ 0x00 ∷ 0x01 ∷ 0x50 ∷ 0x00 ∷ 0x12 ∷ 0x40 ∷ 0x12 ∷ 0 ∷ 0 ∷ 0 ∷ 0 ∷ 0 ∷ 0 ∷ 0 ∷ 0 ∷ 0x9A ∷ 0xDA ∷ 0x55 ∷ 0x81 ∷ 0x61 ∷ 0x37 ∷ 0x95 ∷ 0x7E ∷ []) ≡ ascii "record 1 refused 43 at bit 1\nrow 0 RSI 0000000000000000 first 5 last 9 received 2 missed 3\n3 records, 2 counted\n"

pub losses_printed : Losses
unfolding val to_bits halvings bits_of last rows type_at type_by body_of fields_of alts_of named_row pure prepend and_then ◌>>=◌ times walk flags fields alternative within bits_at read_whole judged read_extension unextended read_answer read_typed cells_read out_of lent_after write_above write_whole write_extension digits signed ascii each read_text has part parts_of items_of entries sole_by head_of record_by whole same_bytes first_at spot_in reported shown share_of with_share reported_by shown_by message_of sole_message message_in number_of id_at octets_of message_origin origin_in report_line kind_word shown_line answer_change answer_line later record_line record_drive row_lines losses.output_from missed_between ring_formula
losses_printed = record { line = refl; nothing = refl; cut = refl; counted = refl }
