-- The participants, taken one by one: what was seen of those before, and that the ids of all are kept.
-- Assumes nothing.
use Prim.Native.Nat.{ℕ, suc, ◌+◌, ◌-◌, ◌<◌, ◌≤◌}
use native.Mathlib.Omega.{arith}
use mathlib.Core.Path.{◌≡◌, refl, sym, ap, subst, ◌∙◌}
use mathlib.Core.Bool.{Bool, true, false, cond, ◌||◌}
use mathlib.Core.List.{List, [], ◌∷◌}
use borrow.Author.Tests.{eqb-true, eq-eqb}
use lib.Dec.{T, eqb}
use lib.IntN.{ℤ}
use lib.ListN.{length, set}
use Rattle.types.specs.Rows.{rows}
use Rattle.types.specs.Table.{numbers}
use Rattle.meaning.specs.Values.{Values, no_items}
use Rattle.sheet.specs.Values.{parts_of}
use Rattle.sheet.specs.Standing.{Entries}
use Rattle.sheet.proofs.Standing.{entries_none}
use Rattle.messages.specs.Keys.{place_of}
use Rattle.messages.specs.Message.{each}
use Rattle.messages.specs.Repeats.{repeated, nowhere, among, first_repeat}
use Rattle.messages.specs.Taking.{behind_at, number_at}
use Rattle.messages.proofs.Entries.{Next, next_entry}
use Rattle.messages.proofs.Figures.{is_figure, figure_stands}
use Rattle.messages.proofs.Keys.{Position, position_is}
use Rattle.messages.proofs.Seen.{Seen, none_seen, was_seen, not_seen, more_seen}
use Rattle.participants.specs.Components.{ptc_id}
use Rattle.participants.specs.Rsm.{id_of, ids_of}
use Rattle.participants.specs.Steps.{participant_row, Kept}
use Rattle.participants.proofs.Types.{id_figure, participant_known}

-- ---- an id is its own key

pub self : (a : ℕ) → eqb a a ≡ true
self a = eq-eqb a a refl

abbrev own : ℕ → ℕ
own a = a

abbrev Any : ℕ → Type 0
Any a = Unit {0}

pub owned : (a b : ℕ) → Any a → Any b → own a ≡ own b → a ≡ b
owned a b s t e = e

abbrev MetBefore : List ℕ → ℕ → List ℕ → Type 0
MetBefore = Seen eqb eqb-true self own Any owned

-- ---- what is taken so far

-- the first of three, moved behind the second
or_turn : (a b c : Bool) → ((a || b) || c) ≡ (b || (a || c))
or_turn true true c = refl
or_turn true false c = refl
or_turn false b c = refl

module _ (cells : List ℤ) (row : ℕ) where
  pub record Going (at left i : ℕ) (ids : List ℕ) (vs : Values) : Type 0 where
    pub rest : Values
    pub seen : List ℕ
    pub are : Entries cells row at left rest
    pub goes : first_repeat eqb seen i (ids_of rest) ≡ first_repeat eqb [] 0 (ids_of vs)
    pub met : MetBefore ids i seen
    pub all : (a : ℕ) → (among eqb a seen || among eqb a (ids_of rest)) ≡ among eqb a (ids_of vs)

  pub begins : (at left : ℕ) (ids : List ℕ) (vs : Values) → Entries cells row at left vs → Going at (left - 0) 0 ids vs
  unfolding among
  begins at left ids vs E =
      let whole : left ≡ left - 0 = omega arith in
      record { rest = vs; seen = []; are = subst (λ (n : ℕ). Entries cells row at n vs) whole E; goes = refl; met = none_seen eqb eqb-true self own Any owned ids; all = λ a. refl }

  module _
      {tb : List ℕ} (table : tb ≡ numbers rows) (er : row ≡ participant_row) (at left i : ℕ) (ids : List ℕ) {vs : Values} (G : Going at left i ids vs) (h : 0 < left)
      {id : ℕ} (told : id ≡ number_at tb row ptc_id cells at) (fits : i ≤ length ids) {p : ℕ} (place : p ≡ place_of id i ids) {next : ℕ} (en : next ≡ behind_at tb row cells at) where
    abbrev N : Next cells row at left table (subst (λ (r : ℕ). r < 414) (sym er) participant_known) h G.are next
    N = next_entry cells row at left table (subst (λ (r : ℕ). r < 414) (sym er) participant_known) h G.are en

    abbrev r : ℕ
    r = id_of (parts_of N.value)

    is : id ≡ r
    is = (figure_stands 65535 cells row ptc_id at N.stands table (subst (λ (x : ℕ). T (is_figure 65535 x ptc_id)) (sym er) id_figure) told).is

    P : Position id ids i p
    P = position_is id i ids fits place

    at_next : {b : Bool} → among eqb r G.seen ≡ b → cond b (repeated i) (first_repeat eqb (r ∷ G.seen) (suc i) (ids_of N.rest)) ≡ first_repeat eqb [] 0 (ids_of vs)
    unfolding first_repeat each
    at_next e = ap (λ (c : Bool). cond c (repeated i) (first_repeat eqb (r ∷ G.seen) (suc i) (ids_of N.rest))) (sym e) ∙ ap (λ (ws : Values). first_repeat eqb G.seen i (ids_of ws)) (sym N.is) ∙ G.goes

    pub repeats : p < i → first_repeat eqb [] 0 (ids_of vs) ≡ repeated i
    repeats l = sym (at_next (was_seen eqb eqb-true self own Any owned ids i G.seen G.met r tt is P l))

    all_on : (a : ℕ) → (among eqb a (r ∷ G.seen) || among eqb a (ids_of N.rest)) ≡ among eqb a (ids_of vs)
    unfolding among each
    all_on a = or_turn (eqb a r) (among eqb a G.seen) (among eqb a (ids_of N.rest)) ∙ ap (λ (ws : Values). among eqb a G.seen || among eqb a (ids_of ws)) (sym N.is) ∙ G.all a

    pub goes_on : i ≤ p → i < length ids → {less : ℕ} → less ≡ left - 1 → Going next less (i + 1) (set ids i id) vs
    goes_on l room {less} e = record {
      rest = N.rest;
      seen = r ∷ G.seen;
      are = subst (λ (n : ℕ). Entries cells row next n N.rest) (sym e) N.are;
      goes =
          let u : i + 1 ≡ suc i = omega arith in
          ap (λ (n : ℕ). first_repeat eqb (r ∷ G.seen) n (ids_of N.rest)) u ∙ at_next (not_seen eqb eqb-true self own Any owned ids i G.seen G.met r tt is P l);
      met = more_seen eqb eqb-true self own Any owned ids i G.seen G.met r tt is P room;
      all = all_on;
    }

  -- ---- at the end the ids of all are kept

  module _ (at left i : ℕ) (ids : List ℕ) {vs : Values} (G : Going at left i ids vs) (z : left ≡ 0) where
    none_left : G.rest ≡ no_items
    none_left = entries_none cells row at left z G.are

    all_seen : (a : ℕ) {b : Bool} → among eqb a G.seen ≡ b → among eqb a (ids_of vs) ≡ b
    unfolding among each
    all_seen a {b} e = sym (G.all a) ∙ ap (λ (ws : Values). among eqb a G.seen || among eqb a (ids_of ws)) none_left ∙ or_false (among eqb a G.seen) ∙ e
      where
        or_false : (c : Bool) → (c || false) ≡ c
        or_false true = refl
        or_false false = refl

    pub ends : i ≤ length ids → {count : ℕ} → i ≡ count → (first_repeat eqb [] 0 (ids_of vs) ≡ nowhere) × Kept vs count ids
    unfolding first_repeat each
    ends fits e = rw (← e) (
      sym G.goes ∙ ap (λ (ws : Values). first_repeat eqb G.seen i (ids_of ws)) none_left,
      record {
        one = λ a l. all_seen a (was_seen eqb eqb-true self own Any owned ids i G.seen G.met a tt refl (position_is a i ids fits refl) l);
        none = λ a l. all_seen a (not_seen eqb eqb-true self own Any owned ids i G.seen G.met a tt refl (position_is a i ids fits refl) l);
      },
    )
