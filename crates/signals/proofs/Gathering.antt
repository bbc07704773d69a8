-- The signal entries, taken one by one: what was seen of those before, and what is filed of all.
-- Assumes nothing.
use Prim.Native.Nat.{ℕ, suc, ◌+◌, ◌-◌, ◌*◌, ◌<◌, ◌≤◌}
use native.Mathlib.Omega.{arith}
use mathlib.Core.Path.{◌≡◌, refl, sym, ap, subst, ◌∙◌}
use mathlib.Core.Bool.{Bool, true, false, cond, ◌||◌}
use mathlib.Core.Logic.{inl, inr}
use mathlib.Core.List.{List, [], ◌∷◌}
use lib.Dec.{eqb}
use lib.IntN.{ℤ}
use lib.ListN.{length, get_or, set}
use lib.Seq.{get_or-set_same, get_or-set_other}
use Rattle.types.specs.Rows.{rows}
use Rattle.types.specs.Table.{numbers}
use Rattle.meaning.specs.Values.{Value, Values}
use Rattle.sheet.specs.Values.{parts_of, entries}
use Rattle.sheet.specs.Standing.{Stands, Entries}
use Rattle.sheet.proofs.Standing.{entries_none}
use Rattle.messages.specs.Message.{each}
use Rattle.messages.specs.Repeats.{repeated, nowhere, among, first_repeat}
use Rattle.messages.specs.Taking.{listing_at, Rowed, behind_at}
use Rattle.sheet.specs.declared.Listing.{Listing}
use Rattle.messages.proofs.Entries.{next_entry, entries_stand}
use Rattle.messages.proofs.Keys.{Position}
use Rattle.messages.proofs.Seen.{Seen, none_seen, was_seen, not_seen, more_seen}
use Rattle.signals.specs.Components.{intersection_id, phases}
use Rattle.signals.specs.References.{Reference, same, reference_at}
use Rattle.signals.specs.Phases.{listed_phase, listed_phases}
use Rattle.signals.specs.Signal.{listed_in, signal_references}
use Rattle.signals.specs.Steps.{key_of, Small, Refers, Keyed, flags_each, Flagged, Marked, Filed, signal_row, phase_row}
use Rattle.signals.proofs.Types.{phases_list, signal_refers, signal_known}
use Rattle.signals.proofs.Keys.{same_is, is_same, key_is}

-- ---- the references that were seen are those whose keys are kept

abbrev MetBefore : List ℕ → ℕ → List Reference → Type 0
MetBefore = Seen same same_is is_same key_of Small key_is

-- ---- what is taken so far

-- a list is as it was below a place
abbrev pub Kept : {A : Type 0} → A → List A → ℕ → List A → Type 0
Kept d before n after = (k : ℕ) → k < n → get_or after k d ≡ get_or before k d

-- no flag behind those of the entries before entry i
abbrev pub Clean : ℕ → List Bool → Type 0
Clean i flags = (k : ℕ) → flags_each * i ≤ k → get_or flags k false ≡ false

module _ (cells : List ℤ) (row : ℕ) where
  pub record Going (at left i : ℕ) (keys : List ℕ) (flags : List Bool) (vs : Values) : Type 0 where
    pub rest : Values
    pub seen : List Reference
    pub are : Entries cells row at left rest
    pub goes : first_repeat same seen i (signal_references rest) ≡ first_repeat same [] 0 (signal_references vs)
    pub met : MetBefore keys i seen
    pub clean : Clean i flags
    pub filed : (keys' : List ℕ) (flags' : List Bool) → Kept 0 keys i keys' → Kept false flags (flags_each * i) flags' → Filed keys' flags' i rest → Filed keys' flags' 0 vs

  pub begins : (at left : ℕ) (keys : List ℕ) (flags : List Bool) (vs : Values) → Clean 0 flags → Entries cells row at left vs → Going at (left - 0) 0 keys flags vs
  begins at left keys flags vs clean E =
      let all : left ≡ left - 0 = omega arith in
      record { rest = vs; seen = []; are = subst (λ (n : ℕ). Entries cells row at n vs) all E; goes = refl; met = none_seen same same_is is_same key_of Small key_is keys; clean = clean; filed = λ k f a b F. F }

  module _
      {tb : List ℕ} (table : tb ≡ numbers rows) (er : row ≡ signal_row) (at left i : ℕ) (keys : List ℕ) (flags : List Bool) {vs : Values} (G : Going at left i keys flags vs) (h : 0 < left)
      {key : ℕ} (keyed : (v : Value) → Refers row intersection_id → Stands cells row at v → Keyed intersection_id (parts_of v) key)
      {p : ℕ} (P : Position key keys i p) {next : ℕ} (en : next ≡ behind_at tb row cells at) where
    abbrev N : Rattle.messages.proofs.Entries.Next cells row at left table (subst (λ (r : ℕ). r < 414) (sym er) signal_known) h G.are next
    N = next_entry cells row at left table (subst (λ (r : ℕ). r < 414) (sym er) signal_known) h G.are en

    abbrev r : Reference
    r = reference_at intersection_id (parts_of N.value)

    K : Keyed intersection_id (parts_of N.value) key
    K = keyed N.value (subst (λ (x : ℕ). Refers x intersection_id) (sym er) signal_refers) N.stands

    at_next : {b : Bool} → among same r G.seen ≡ b → cond b (repeated i) (first_repeat same (r ∷ G.seen) (suc i) (signal_references N.rest)) ≡ first_repeat same [] 0 (signal_references vs)
    unfolding first_repeat each
    at_next e = ap (λ (c : Bool). cond c (repeated i) (first_repeat same (r ∷ G.seen) (suc i) (signal_references N.rest))) (sym e) ∙ ap (λ (ws : Values). first_repeat same G.seen i (signal_references ws)) (sym N.is) ∙ G.goes

    pub repeats : p < i → first_repeat same [] 0 (signal_references vs) ≡ repeated i
    repeats l = sym (at_next (was_seen same same_is is_same key_of Small key_is keys i G.seen G.met r K.small K.is P l))

    module _ (l : i ≤ p) (room : i < length keys) {list : Listing} (el : list ≡ listing_at tb row phases cells at) {flags' : List Bool} (mark : (ws : Values) → Rowed cells phase_row list ws → Marked (flags_each * i) (each listed_phase ws) flags flags') where
      M : Marked (flags_each * i) (each listed_phase (entries phases (parts_of N.value))) flags flags'
      M = mark (entries phases (parts_of N.value)) (entries_stand cells signal_row phases at (subst (λ (x : ℕ). Stands cells x at N.value) er N.stands) table phases_list (el ∙ ap (λ (x : ℕ). listing_at tb x phases cells at) er))

      flagged : (f : List Bool) → Kept false flags' (flags_each * (i + 1)) f → Flagged f (flags_each * i) (listed_in (parts_of N.value))
      unfolding listed_phases
      flagged f k q few =
          let b : Bool = among eqb q (each listed_phase (entries phases (parts_of N.value))) in
          sym (k (flags_each * i + q) (omega arith) ∙ M.own q few ∙ ap (λ (c : Bool). b || c) (G.clean (flags_each * i + q) (omega arith)) ∙ or_false b)
        where
          or_false : (b : Bool) → (b || false) ≡ b
          or_false true = refl
          or_false false = refl

      pub goes_on : {less : ℕ} → less ≡ left - 1 → Going next less (i + 1) (set keys i key) flags' vs
      goes_on e = record {
        rest = N.rest;
        seen = r ∷ G.seen;
        are = subst (λ (n : ℕ). Entries cells row next n N.rest) (sym e) N.are;
        goes = let e : i + 1 ≡ suc i = omega arith in ap (λ (n : ℕ). first_repeat same (r ∷ G.seen) n (signal_references N.rest)) e ∙ at_next (not_seen same same_is is_same key_of Small key_is keys i G.seen G.met r K.small K.is P l);
        met = more_seen same same_is is_same key_of Small key_is keys i G.seen G.met r K.small K.is P room;
        clean = λ k u. M.others k (inr (omega arith)) ∙ G.clean k (omega arith);
        filed = λ k f a b F. G.filed k f
            (λ j u. a j (omega arith) ∙ get_or-set_other keys i j key 0 (λ z. omega (arith, u, z)))
            (λ j u. b j (omega arith) ∙ M.others j (inl u))
            (all_filed k f a b F);
      }
        where
          all_filed : (k : List ℕ) (f : List Bool) → Kept 0 (set keys i key) (i + 1) k → Kept false flags' (flags_each * (i + 1)) f → Filed k f (i + 1) N.rest → Filed k f i G.rest
          all_filed k f a b F =
              let e : i + 1 ≡ suc i = omega arith in
              subst (λ (ws : Values). Filed k f i ws) (sym N.is)
              (a i (omega arith) ∙ get_or-set_same keys i key 0 room ∙ K.is, K.small, flagged f b, subst (λ (n : ℕ). Filed k f n N.rest) e F)

  -- ---- at the end all are filed

  pub ends : (at left i : ℕ) (keys : List ℕ) (flags : List Bool) {vs : Values} → Going at left i keys flags vs → left ≡ 0 → (first_repeat same [] 0 (signal_references vs) ≡ nowhere) × Filed keys flags 0 vs
  unfolding first_repeat each
  ends at left i keys flags {vs} G z =
      let none = entries_none cells row at left z G.are in (
        sym G.goes ∙ ap (λ (ws : Values). first_repeat same G.seen i (signal_references ws)) none,
        G.filed keys flags (λ k u. refl) (λ k u. refl) (subst (λ (ws : Values). Filed keys flags i ws) (sym none) tt),
      )
