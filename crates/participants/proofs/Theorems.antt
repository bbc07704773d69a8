-- The RSM sending profile is what the sentences say of it (document 02, A1): of any sheet the ruling is one of which the sentence holds, and no other
-- ruling has one that holds.
-- Assumes nothing.
use Prim.Native.Nat.{ℕ, ◌+◌, ◌<◌}
use native.Mathlib.Decide.{dec_lt}
use native.Mathlib.Omega.{arith}
use mathlib.Core.Path.{◌≡◌, refl, sym, ap, subst, ◌∙◌}
use mathlib.Core.Bool.{Bool, true, false, cond}
use mathlib.Core.Logic.{◌⊎◌, inl, inr}
use mathlib.Core.List.{List, []}
use borrow.Author.Tests.{eqb-true, eqb-false, ne_eqb}
use lib.Dec.{T, eqb}
use lib.IntN.{ℤ}
use Rattle.answers.specs.GivenBack as given
use Rattle.types.specs.Names.{row_of}
use Rattle.types.specs.Rows.{rows}
use Rattle.types.specs.Rule.{◌&◌}
use Rattle.meaning.specs.Values.{Parts, Values}
use Rattle.sheet.specs.Values.{has, parts_of, entries}
use Rattle.sheet.proofs.Named.{is_called}
use Rattle.messages.specs.Message.{message_frame, rsm_frame, Message, message, no_message, message_in}
use Rattle.messages.specs.Places.{At, Repeats}
use Rattle.messages.specs.Repeats.{Repeat, repeated, nowhere, among, first_repeat}
use Rattle.messages.proofs.Frames.{no_message_number}
use Rattle.messages.proofs.Places.{entry_at, at_entry}
use Rattle.messages.proofs.Repeats.{among_somewhere, somewhere_among, first_repeats, none_repeats, only_repeats, only_nowhere}
use Rattle.rules.specs.Rsi.{ruling, passes}
use Rattle.rules.specs.Ruling.{Ruling}
use Rattle.rules.proofs.Broken.{NoneBreaks, FirstBreaks, none_so, first_so, breaks_or_not}
use Rattle.participants.specs.Components.{participants, ptc_id, vehicle_class}
use Rattle.participants.specs.Rsm.{unit_id, id_of, ids_of, field_rule, profiled, message_profile, rsm_ruled}
use Rattle.participants.specs.Sentences.{Different, RepeatsId, IsUnit, OneUnit, Lacks, RsmSays}
use Rattle.participants.specs.Sentences.RsmSays.{no_value, not_rsm, repeats, no_unit, lacks, follows}
use Rattle.participants.proofs.Gathering.{self}
use Rattle.participants.proofs.Frame.{some_repeats, no_unit as unit-missing, the_fields}

apart : {P : Type 0} → ◌≡◌ true false → P
apart e = absurd (let z : ◌≡◌ {A = ℕ} 0 1 = cc in omega arith)

-- ---- required fields

has_it : (parts : Parts) → field_rule parts ≡ 0 → has vehicle_class parts ≡ true
unfolding field_rule
has_it parts e = go (has vehicle_class parts) refl e
  where
    go : (b : Bool) → has vehicle_class parts ≡ b → ◌≡◌ {A = ℕ} (cond b 0 30) 0 → b ≡ true
    go true u z = refl
    go false u z = absurd (omega arith)

it_has : (parts : Parts) → has vehicle_class parts ≡ true → field_rule parts ≡ 0
unfolding field_rule
it_has parts e = rw e refl

lacks_it : (parts : Parts) {n : ℕ} → field_rule parts ≡ n → ¬ (n ≡ 0) → (has vehicle_class parts ≡ false) × (n ≡ given.field_missing)
unfolding field_rule
lacks_it parts {n} e some = go (has vehicle_class parts) refl e
  where
    go : (b : Bool) → has vehicle_class parts ≡ b → ◌≡◌ {A = ℕ} (cond b 0 30) n → (b ≡ false) × (n ≡ given.field_missing)
    go true u z = absurd (some (sym z))
    go false u z = (refl, sym z)

it_lacks : (parts : Parts) → has vehicle_class parts ≡ false → field_rule parts ≡ given.field_missing
unfolding field_rule
it_lacks parts e = rw e refl

not_lacking : (parts : Parts) → (has vehicle_class parts ≡ false → ⊥) → field_rule parts ≡ 0
not_lacking parts isnt = go (has vehicle_class parts) refl
  where
    go : (b : Bool) → has vehicle_class parts ≡ b → field_rule parts ≡ 0
    go true e = it_has parts e
    go false e = absurd (isnt e)

module _ (list : Values) where
  -- ---- ids that are repeated

  to_ids : (n : ℕ) → RepeatsId n list → Repeats n (ids_of list)
  to_ids n (v, e, j, l, w, f, is) = (id_of (parts_of v), entry_at id_of n v list e, j, l, subst (λ (a : ℕ). At j a (ids_of list)) is (entry_at id_of j w list f))

  from_ids : (n : ℕ) → Repeats n (ids_of list) → RepeatsId n list
  from_ids n (a, s, j, l, t) =
      let v = at_entry id_of n a list s in
      let w = at_entry id_of j a list t in
      (v.0, v.1, j, l, w.0, w.1, w.2 ∙ sym v.2)

  differ : ((n : ℕ) → RepeatsId n list → ⊥) → Different list
  differ none i j v w e f is = go (dec_lt i j) (dec_lt j i)
    where
      go : Dec (i < j) → Dec (j < i) → i ≡ j
      go (yes l) d = absurd (none j (w, f, i, l, v, e, is))
      go (no a) (yes l) = absurd (none i (v, e, j, l, w, f, sym is))
      go (no a) (no b) = omega arith

  none_again : Different list → (n : ℕ) → Repeats n (ids_of list) → ⊥
  none_again D n R =
      let (v, e, j, l, w, f, is) = from_ids n R in
      let same : j ≡ n = D j n w v f e is in
      omega arith

  -- ---- the unit itself

  unit_of : among eqb unit_id (ids_of list) ≡ true → (i : ℕ) × IsUnit i list
  unit_of e =
      let s = among_somewhere eqb eqb-true self unit_id (ids_of list) e in
      let v = at_entry id_of s.0 unit_id list s.1 in
      (s.0, (v.0, v.1, v.2))

  of_unit : (i : ℕ) → IsUnit i list → among eqb unit_id (ids_of list) ≡ true
  of_unit i (v, e, is) = somewhere_among eqb eqb-true self i unit_id (ids_of list) (subst (λ (a : ℕ). At i a (ids_of list)) is (entry_at id_of i v list e))

  -- where no two ids are equal there is one at most
  one_unit : Different list → (i : ℕ) → IsUnit i list → OneUnit list
  one_unit D i (v, e, is) = (i, (v, e, is), λ j U. D j i U.0 v U.1 e (U.2 ∙ sym is))

  not_unit : ((k : ℕ) → IsUnit k list → ⊥) → among eqb unit_id (ids_of list) ≡ false
  not_unit none = go (among eqb unit_id (ids_of list)) refl
    where
      go : (b : Bool) → among eqb unit_id (ids_of list) ≡ b → b ≡ false
      go false e = refl
      go true e = let u = unit_of e in absurd (none u.0 u.1)

  -- ---- the first that lacks a field

  first_lacks : {n : ℕ} → Lacks n list → ((k : ℕ) → k < n → Lacks k list → ⊥) → FirstBreaks field_rule list n given.field_missing
  first_lacks {n} (v, e, z) none = record {
    entry = v;
    there = e;
    is = it_lacks (parts_of v) z;
    some = λ y. omega arith;
    first = λ j w l f. not_lacking (parts_of w) (λ y. none j l (w, f, y));
  }

-- ---- a sheet

module _ (sheet : List ℤ) where
  module _ {rsm : Parts} (M : message_in sheet ≡ message rsm_frame rsm) where
    abbrev list : Values
    list = entries participants rsm

    is_profiled : rsm_ruled sheet ≡ profiled list
    unfolding rsm_ruled message_profile
    is_profiled = ap message_profile M

    -- which of the last four it is
    profiled_says : RsmSays sheet (profiled list)
    profiled_says = by_ids (first_repeat eqb [] 0 (ids_of list)) refl
      where
        by_fields : first_repeat eqb [] 0 (ids_of list) ≡ nowhere → among eqb unit_id (ids_of list) ≡ true → Different list → OneUnit list → NoneBreaks field_rule list ⊎ ((k : ℕ) × (n : ℕ) × FirstBreaks field_rule list k n) → RsmSays sheet (profiled list)
        by_fields e u D U (inl none) =
            subst (RsmSays sheet) (the_fields list e u (sym (none_so field_rule 0 list passes none)))
            (follows M D U (λ i v f. has_it (parts_of v) (none i v f)))
        by_fields e u D U (inr (k, n, F)) =
            let L = lacks_it (parts_of F.entry) F.is F.some in
            let at : 0 + k ≡ k = omega arith in
            subst (RsmSays sheet) (the_fields list e u (ap (λ (m : ℕ). ruling m k) (sym L.1) ∙ ap (ruling n) (sym at) ∙ sym (first_so field_rule 0 list passes k n F)))
            (lacks M D U (F.entry, F.there, L.0) (λ j l (w, f, z). apart (sym (has_it (parts_of w) (F.first j w l f)) ∙ z)))

        by_unit : first_repeat eqb [] 0 (ids_of list) ≡ nowhere → Different list → (b : Bool) → among eqb unit_id (ids_of list) ≡ b → RsmSays sheet (profiled list)
        by_unit e D false u = subst (RsmSays sheet) (unit-missing list e u) (no_unit M D (λ k U. apart (sym (of_unit list k U) ∙ u)))
        by_unit e D true u = let U = unit_of list u in by_fields e u D (one_unit list D U.0 U.1) (breaks_or_not field_rule list)

        by_ids : (r : Repeat) → first_repeat eqb [] 0 (ids_of list) ≡ r → RsmSays sheet (profiled list)
        by_ids (repeated n) e =
            let R = first_repeats eqb eqb-true self (ids_of list) n e in
            subst (RsmSays sheet) (some_repeats list e) (repeats M (from_ids list n R.0) (λ k l Q. R.1 k l (to_ids list k Q)))
        by_ids nowhere e = by_unit e (differ list (λ n R. none_repeats eqb eqb-true self (ids_of list) e n (to_ids list n R))) (among eqb unit_id (ids_of list)) refl

    -- the ids of participants that differ
    differ_nowhere : Different list → first_repeat eqb [] 0 (ids_of list) ≡ nowhere
    differ_nowhere D = only_nowhere eqb eqb-true self (ids_of list) (none_again list D)

  message_says : (m : Message) → message_in sheet ≡ m → RsmSays sheet (message_profile m)
  unfolding message_profile
  message_says (no_message why) e = rw (no_message_number sheet e) (no_value e)
  message_says (message kind parts) e = go (eqb kind rsm_frame) refl
    where
      go : (b : Bool) → eqb kind rsm_frame ≡ b → RsmSays sheet (cond b (profiled (entries participants parts)) (ruling given.no_rsm 0))
      go true u = profiled_says (e ∙ ap (λ (k : ℕ). message k parts) (eqb-true kind rsm_frame u))
      go false u = not_rsm e (eqb-false kind rsm_frame u)

  -- the ruling has what it says: a failure that is named is one, and no earlier one is
  pub rsm_says : RsmSays sheet (rsm_ruled sheet)
  unfolding rsm_ruled
  rsm_says = message_says (message_in sheet) refl

  -- and no other ruling has: so each is given exactly when its sentence holds
  pub rsm_only : (r : Ruling) → RsmSays sheet r → r ≡ rsm_ruled sheet
  unfolding rsm_ruled message_profile
  rsm_only r (no_value {why} e) = ap (λ (n : ℕ). ruling n why.place) (sym (no_message_number sheet e)) ∙ sym (ap message_profile e)
  rsm_only r (not_rsm {kind} {parts} e isnt) = sym (ap message_profile e ∙ rw (ne_eqb kind rsm_frame isnt) refl)
  rsm_only r (repeats {rsm} {n} M R none) =
      some_repeats (entries participants rsm) (only_repeats eqb eqb-true self (ids_of (entries participants rsm)) n (to_ids (entries participants rsm) n R) (λ k l Q. none k l (from_ids (entries participants rsm) k Q)))
      ∙ sym (is_profiled M)
  rsm_only r (no_unit {rsm} M D none) = unit-missing (entries participants rsm) (differ_nowhere M D) (not_unit (entries participants rsm) none) ∙ sym (is_profiled M)
  rsm_only r (lacks {rsm} {n} M D U L none) =
      let at : 0 + n ≡ n = omega arith in
      the_fields (entries participants rsm) (differ_nowhere M D) (of_unit (entries participants rsm) U.0 U.1)
      (ap (ruling given.field_missing) (sym at) ∙ sym (first_so field_rule 0 (entries participants rsm) passes n given.field_missing (first_lacks (entries participants rsm) L none)))
      ∙ sym (is_profiled M)
  rsm_only r (follows {rsm} M D U C) =
      the_fields (entries participants rsm) (differ_nowhere M D) (of_unit (entries participants rsm) U.0 U.1)
      (sym (none_so field_rule 0 (entries participants rsm) passes (λ k v e. it_has (parts_of v) (C k v e))))
      ∙ sym (is_profiled M)

-- ---- an RSM comes to 0, 23, 24 or 30

abbrev pub Number : ℕ → Type 0
Number n = (n ≡ given.done) ⊎ ((n ≡ given.repeated_id) ⊎ ((n ≡ given.unit_missing) ⊎ (n ≡ given.field_missing)))

module _ (sheet : List ℤ) {rsm : Parts} (M : message_in sheet ≡ message rsm_frame rsm) where
  number_of : (r : Ruling) → RsmSays sheet r → Number r.number
  number_of r (no_value {why} e) = absurd (let both : message rsm_frame rsm ≡ no_message why = sym M ∙ e in let z : ◌≡◌ {A = ℕ} 0 1 = cc in omega arith)
  number_of r (not_rsm {kind} {parts} e isnt) = absurd (let both : message rsm_frame rsm ≡ message kind parts = sym M ∙ e in let is : rsm_frame ≡ kind = cc in isnt (sym is))
  number_of r (repeats e R none) = inr (inl refl)
  number_of r (no_unit e D none) = inr (inr (inl refl))
  number_of r (lacks e D U L none) = inr (inr (inr refl))
  number_of r (follows e D U C) = inl refl

  pub the_four_numbers : Number (rsm_ruled sheet).number
  the_four_numbers = number_of (rsm_ruled sheet) (rsm_says sheet)

-- ---- the components that the profile names are those of these names in source 000

pub components_named : T (
    eqb message_frame (row_of "MessageFrame")
    & is_called "MessageFrame" rsm_frame "rsmFrame"
    & is_called "RoadsideSafetyMessage" participants "participants"
    & is_called "ParticipantData" ptc_id "ptcId"
    & is_called "ParticipantData" vehicle_class "vehicleClass")
unfolding rows is_called
components_named = tt
