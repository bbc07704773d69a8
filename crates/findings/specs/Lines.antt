-- The line of a finding, as the rules program prints it (docs/PROGRAMS.md, knotsaffron_check).
use Rattle.std.specs.Prelude.{ℕ, List, ◌++◌, cond, eqb}
use Rattle.answers.specs.GivenBack as number
use Rattle.printing.specs.Digits.{decimal}
use Rattle.printing.specs.Texts.{ascii}
use Rattle.findings.specs.Finding.{Finding}
use Rattle.findings.specs.Finding as finding

-- words around one number, and around two
abbrev pub around : List ℕ → ℕ → List ℕ → List ℕ
around first n last = first ++ decimal n ++ last

abbrev pub twice : List ℕ → ℕ → List ℕ → ℕ → List ℕ → List ℕ
twice first n middle m last = first ++ decimal n ++ middle ++ decimal m ++ last

-- any other number is told as the writing program tells a sheet that is no value
abbrev pub other_line : ℕ → ℕ → List ℕ
other_line n cell = twice (ascii "refused ") n (ascii " at cell ") cell (ascii "\n")

-- by the number of a ruling, and the entry
unfoldable pub ruling_line : ℕ → ℕ → List ℕ
ruling_line n entry =
    cond (eqb n number.done) (ascii "passes\n")
    (cond (eqb n number.event_position) (around (ascii "12 event ") entry (ascii " has no eventPos\n"))
    (cond (eqb n number.event_reach) (around (ascii "13 event ") entry (ascii " has none of eventRadius, referencePaths, referenceLinks\n"))
    (cond (eqb n number.sign_position) (around (ascii "14 sign ") entry (ascii " has no signPos\n"))
    (cond (eqb n number.sign_description) (around (ascii "15 sign ") entry (ascii " has no description\n"))
    (cond (eqb n number.sign_reach) (around (ascii "16 sign ") entry (ascii " has neither referencePaths nor referenceLinks\n"))
    (other_line n entry))))))

-- by the number of a ruling by the RSM sending profile, and the participant
unfoldable pub profile_line : ℕ → ℕ → List ℕ
profile_line n entry =
    cond (eqb n number.done) (ascii "passes\n")
    (cond (eqb n number.repeated_id) (around (ascii "23 participant ") entry (ascii " repeats an earlier ptcId\n"))
    (cond (eqb n number.unit_missing) (ascii "24 no participant has ptcId 0\n")
    (cond (eqb n number.field_missing) (around (ascii "30 participant ") entry (ascii " has no vehicleClass\n"))
    (other_line n entry))))

-- by the number of a verdict on a signal message, the node or entry, and the phase
unfoldable pub verdict_line : ℕ → ℕ → ℕ → List ℕ
verdict_line n node phase =
    cond (eqb n number.done) (ascii "passes\n")
    (cond (eqb n number.repeated_signal) (around (ascii "51 entry ") node (ascii " repeats an earlier one\n"))
    (cond (eqb n number.phase_not_listed) (twice (ascii "52 node ") node (ascii " uses phase ") phase (ascii ", which is not listed\n"))
    (other_line n node)))

-- the bytes that every line fits into
abbrev pub longest_line : ℕ
longest_line = 128

unfoldable pub found_text : Finding → List ℕ
found_text (finding.Ruled r) = ruling_line r.number r.place
found_text (finding.Profiled r) = profile_line r.number r.place
found_text (finding.Compared v) = verdict_line v.number v.node v.phase
found_text (finding.Map n) = around (ascii "map of ") n (ascii " nodes\n")
found_text finding.NoMap = ascii "no map yet\n"
found_text finding.NoRule = ascii "no rule for BSM\n"
