-- The levels of a map: the phases of what stands at a place are those of its parts, one level below.
-- Assumes nothing.
use Rattle.std.proofs.Common.{◌≡◌, ℕ, ◌+◌, ◌-◌, ◌<◌, Bool, false, List, [], ◌∷◌, Option, take, drop, sym, ap, subst, ◌∙◌, arith}
use Rattle.std.proofs.lemmas.List.{get_or-take, get_or-drop}
use lib.Dec.{T}
use lib.IntN.{ℤ}
use Rattle.types.specs.Rows.{rows}
use Rattle.types.specs.Table.{numbers}
use Rattle.meaning.specs.Values.{Value}
use Rattle.sheet.specs.Values.{parts_of, entries}
use Rattle.sheet.specs.Standing.{Stands, part_row, entry_row}
use Rattle.sheet.specs.declared.Listing.{Listing}
use Rattle.messages.specs.Taking.{listing_at, Rowed, number_at}
use Rattle.messages.proofs.Entries.{is_list, entries_stand}
use Rattle.messages.proofs.Figures.{is_figure, Figure, figure_stands}
use Rattle.signals.specs.Phases.{phase_at}
use Rattle.signals.specs.Signal.{first_unlisted}
use Rattle.signals.specs.Steps.{flags_each, Flagged, Flags, Found}
use Rattle.signals.proofs.Searching.{phase_one, found_as}

-- the flags of one entry, out of those of all
pub own_flags : (flags : List Bool) (from to : ℕ) {listed : ℕ → Bool} → Flagged flags from listed → to ≡ from + flags_each → Flags (take (to - from) (drop from flags)) listed
own_flags flags from to F e p few = F p few ∙ sym (get_or-take (to - from) (drop from flags) p false (omega arith) ∙ get_or-drop from flags p false)

module _ (cells : List ℤ) {tb : List ℕ} (table : tb ≡ numbers rows) (row place : ℕ) {v : Value} (S : Stands cells row place v) {own : ℕ} (er : row ≡ own) (k : ℕ) where
  own_stands : Stands cells own place v
  own_stands = subst (λ (r : ℕ). Stands cells r place v) er S

  -- ---- a movement or a connection: its phase

  pub level_phase : (listed : ℕ → Bool) → T (is_figure 255 own k) → (phase : Option ℕ) → {n : ℕ} → n ≡ number_at tb row k cells place → (n < 256 → Found phase (first_unlisted listed (n ∷ []))) → Found phase (first_unlisted listed (phase_at k (parts_of v)))
  level_phase listed f phase {n} en one =
      let F : Figure 255 cells own k place own_stands table f n = figure_stands 255 cells own k place own_stands table f (en ∙ ap (λ (r : ℕ). number_at tb r k cells place) er) in
      found_as (ap (λ (m : ℕ). first_unlisted listed (m ∷ [])) F.is ∙ sym (phase_one listed k (parts_of v))) phase (one (omega (arith, F.few)))

  -- ---- a list of entries, one level below

  pub level_list : T (is_list own k) → {list : Listing} → list ≡ listing_at tb row k cells place → Rowed cells (entry_row (part_row own k)) list (entries k (parts_of v))
  level_list t el = entries_stand cells own k place own_stands table t (el ∙ ap (λ (r : ℕ). listing_at tb r k cells place) er)
