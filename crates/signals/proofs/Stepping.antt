-- Entries that stand in a sheet, taken one by one: the phases that an entry lists.
-- Assumes nothing.
use Prim.Native.Nat.{ℕ, ◌-◌, ◌<◌}
use native.Mathlib.Omega.{arith}
use mathlib.Core.Path.{◌≡◌, sym, ap, subst, ◌∙◌}
use mathlib.Core.List.{List, ◌∷◌}
use lib.IntN.{ℤ}
use Rattle.types.specs.Rows.{rows}
use Rattle.types.specs.Table.{numbers}
use Rattle.meaning.specs.Values.{Values}
use Rattle.sheet.specs.Standing.{Stands, Entries}
use Rattle.messages.specs.Message.{each}
use Rattle.messages.specs.Taking.{number_at, behind_at}
use Rattle.messages.proofs.Entries.{next_entry}
use Rattle.messages.proofs.Figures.{Figure, figure_stands}
use Rattle.signals.specs.Components.{phase_id}
use Rattle.signals.specs.Phases.{listed_phase}
use Rattle.signals.specs.Steps.{phase_row}
use Rattle.signals.proofs.Types.{phase_figure, phase_known}

module _ (cells : List ℤ) {tb : List ℕ} (table : tb ≡ numbers rows) (row at left : ℕ) {vs : Values} (er : row ≡ phase_row) (h : 0 < left) (E : Entries cells row at left vs) where
  pub record Phase (n next : ℕ) : Type 0 where
    pub rest : Values
    pub are : Entries cells row next (left - 1) rest
    pub few : n < 256
    pub is : each listed_phase vs ≡ n ∷ each listed_phase rest

  pub next_phase : {n next : ℕ} → n ≡ number_at tb row phase_id cells at → next ≡ behind_at tb row cells at → Phase n next
  unfolding each
  next_phase {n} {next} en e =
      let N = next_entry cells row at left table (subst (λ (r : ℕ). r < 414) (sym er) phase_known) h E e in
      let F : Figure 255 cells phase_row phase_id at (subst (λ (r : ℕ). Stands cells r at N.value) er N.stands) table phase_figure n = figure_stands 255 cells phase_row phase_id at (subst (λ (r : ℕ). Stands cells r at N.value) er N.stands) table phase_figure (en ∙ ap (λ (r : ℕ). number_at tb r phase_id cells at) er) in
      record { rest = N.rest; are = N.are; few = omega (arith, F.few); is = ap (each listed_phase) N.is ∙ ap (λ (m : ℕ). m ∷ each listed_phase N.rest) (sym F.is) }
