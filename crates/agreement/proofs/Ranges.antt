-- The ranges of `loss` and `position` are those of the type table, and its points all numbers of an axis but one, computed of the definitions.
-- Assumes nothing.
use mathlib.Core.Path.{refl}
use lib.Dec.{leb-zero}
use Rattle.loss.specs.Ring.{missed_between, ring_formula}
use Rattle.position.specs.Ranges.{inside}
use Rattle.types.specs.Rows.{rows}
use Rattle.types.specs.Table.{type_at, type_by, body_of, fields_of, alts_of}
use Rattle.agreement.specs.Ranges.{Agreement}

pub ranges_agree : Agreement
unfolding rows missed_between ring_formula inside type_at type_by body_of fields_of alts_of
ranges_agree =
    record {
      ends = (refl, (refl, (refl, (refl, (refl, (refl, (refl, (refl, tt))))))));
      alternatives = refl;
      latitude = record { shared = refl; left_out = refl };
      longitude = record { shared = refl; left_out = refl };
      round = refl;
      counts = λ old new. rw (leb-zero old, leb-zero new);
      ring = λ old new. refl;
    }
