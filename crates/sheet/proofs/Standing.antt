-- What the questions of this crate answer of a value that stands in a sheet: its components, its alternative and its entries stand where they say.
-- Over any row of source 000, so that a caller cites one law for each question.
-- Assumes nothing.
use Prim.Native.Nat.{ℕ, zero, suc, ◌+◌, ◌-◌, ◌<◌, ◌≤◌}
use native.Mathlib.Decide.{dec_lt}
use native.Mathlib.Omega.{arith}
use mathlib.Core.Path.{◌≡◌, refl, sym, ap, ◌∙◌}
use mathlib.Core.Bool.{cond, true}
use mathlib.Core.List.{List, []}
use borrow.Author.Tests.{lt-ltb, le-ltb, ne_eqb}
use lib.Dec.{T, eqb}
use lib.IntN.{ℤ, pos, ◌+ℤ◌, +ℤ_comm, -ℤ-+ℤ_cancel}
use lib.ListN.{length, get_or, get_or-eq_default}
use Rattle.std.specs.Prelude.{Ok}
use Rattle.basics.specs.Lists.{natural}
use Rattle.types.specs.Shape.{Ty, Fields, Alts, Field}
use Rattle.types.specs.Shape.Ty.{num, seq, choice, list, ext}
use Rattle.types.specs.Row.{Row, span_of}
use Rattle.types.specs.Rows.{rows}
use Rattle.types.specs.Rule.{reach, parts, are_of}
use Rattle.types.specs.Columns as columns
use Rattle.types.specs.Kinds as kinds
use Rattle.types.specs.Table.{numbers, column, row_at, no_row, first_edition, root_at, type_of, the_rows, fields_of, alts_of, body_of, extended_of, type_by, value_in}
use Rattle.types.proofs.Rule.{rows_right}
use Rattle.types.proofs.Steps.{last_of}
use Rattle.types.proofs.Depth.{type_by_rows, all_smaller, all_parts}
use Rattle.meaning.specs.Values.{Value, whole, Values, no_items, item}
use Rattle.meaning.specs.Steps.Got.{ok}
use Rattle.meaning.specs.Steps.{pure}
use Rattle.meaning.specs.Walk.{flags, times, walk, alternative}
use Rattle.meaning.specs.Writing.{write_whole, writer, write}
use Rattle.meaning.proofs.Steps.{Came, bound}
use Rattle.meaning.proofs.Sides.{WriteWhole, write_whole_lem}
use Rattle.walking.specs.Walked.{sized}
use Rattle.walking.proofs.Rows.{at_chosen}
use Rattle.passing.proofs.Root.{the_root, root_same}
use Rattle.sheet.specs.Values.{has, parts_of, items_of}
use Rattle.sheet.specs.declared.Listing.{Listing}
use Rattle.sheet.specs.Standing.{Stands, value_at, Entries, part_row, entry_row, Holds, Picks, Lists}
use Rattle.sheet.specs.Moving.{end_by, onward, part_by, here_from, components_of, component_at, has_at, choice_by, chosen_at, listed_by, entries_at}
use Rattle.sheet.proofs.Apart.{optionals, ext_apart, Sequence, seq_apart, Chosen, choice_apart, Listed, list_apart, item_apart}
use Rattle.sheet.proofs.Components.{row_is, stands_inside, Found, found, here_must}

abbrev ty : ℕ → Ty
ty = type_of the_rows

-- ---- a row by what it holds

rows_many : length rows ≡ 414
unfolding rows
rows_many = refl

-- an extension bit gives no cell: the table is as edition 1 takes it
mark_known : (row : ℕ) → (the_rows row).mark ≤ 1
unfolding first_edition
mark_known row = omega (arith, ap (λ (r : Row). r.mark) (the_root row))

-- a row past the end is a whole number, so that a sequence, a choice and a list are rows of the table
kind_past : (row : ℕ) → 414 ≤ row → (the_rows row).kind ≡ 0
unfolding row_at column
kind_past row h = ap (λ (r : Row). r.kind) (get_or-eq_default rows no_row {n = row} (omega (arith, rows_many)))

pub kind_known : (row : ℕ) → ((the_rows row).kind ≡ 0 → ⊥) → row < 414
kind_known row isnt = elim (dec_lt row 414) [ yes h ↦ h | no h ↦ absurd (isnt (kind_past row (omega arith))) ]

module _ (row : ℕ) where
  abbrev body : Ty
  body = body_of the_rows ty row (the_rows row)

  body_number : (the_rows row).kind < kinds.sequence → body ≡ num (value_in row (the_rows row))
  unfolding body_of
  body_number h = rw (lt-ltb (the_rows row).kind kinds.sequence h) refl

  body_sequence : (the_rows row).kind ≡ kinds.sequence → body ≡ seq (fields_of the_rows ty (the_rows row).first (the_rows row).count)
  unfolding body_of
  body_sequence e = rw e refl

  body_choice : (the_rows row).kind ≡ kinds.choice → body ≡ choice row (alts_of the_rows ty (the_rows row).first (span_of (the_rows row)))
  unfolding body_of
  body_choice e = rw e refl

  body_list : (the_rows row).kind ≡ kinds.list → body ≡ list row (natural (the_rows row).lowest) (span_of (the_rows row)) (ty (the_rows row).first)
  unfolding body_of
  body_list e = rw e refl

  sequence_reach : (the_rows row).kind ≡ kinds.sequence → (the_rows row).first + (the_rows row).count ≤ row
  unfolding reach
  sequence_reach e = omega (arith, rw e at (all_smaller rows rows_right row))

  sequence_parts : (the_rows row).kind ≡ kinds.sequence → T (are_of kinds.component the_rows (the_rows row).first (the_rows row).count)
  unfolding parts
  sequence_parts e = rw e at (all_parts rows rows_right row)

-- ---- a value that stands, behind the extension bit of its row

module _ (cells : List ℤ) (row p : ℕ) {v : Value} (S : Stands cells row p v) where
  body_stands : (more : List ℕ) × (write (body row) cells p ≡ ok v more S.next)
  unfolding type_by
  body_stands = go (the_rows row).mark (mark_known row) (ap (λ (t : Ty). write t cells p) (sym (type_by_rows row)) ∙ S.is)
    where
      go : (m : ℕ) → m ≤ 1 → write (cond (eqb m 0) (body row) (cond (eqb m 1) (ext (body row)) (extended_of the_rows ty row (the_rows row)))) cells p ≡ ok v S.bits S.next → (more : List ℕ) × (write (body row) cells p ≡ ok v more S.next)
      go zero h e = (S.bits, e)
      go (suc zero) h e = ext_apart cells (body row) p e
      go (suc (suc m)) h e = absurd (omega arith)

  -- ---- a whole number: its one cell is its value, so far above the lowest

  pub record Numbered : Type 0 where
    pub is : v ≡ whole (get_or cells p (pos 0))
    pub enough : p < length cells
    pub next : p + 1 ≡ S.next
    pub above : ℕ
    pub within : above ≤ span_of (the_rows row)
    pub cell : (the_rows row).lowest +ℤ pos above ≡ get_or cells p (pos 0)

  pub numbered : (the_rows row).kind < kinds.sequence → Numbered
  unfolding walk pure
  numbered h =
      let f : Field = value_in row (the_rows row) in
      let C : Came (write_whole f cells p) (λ n. pure (whole (f.lowest +ℤ pos n)) cells) S.next v body_stands.0 = bound (write_whole f) (λ n. pure (whole (f.lowest +ℤ pos n))) cells p (ap (λ (t : Ty). write t cells p) (sym (body_number row h)) ∙ body_stands.1) in
      let W : WriteWhole cells f p C.then C.told C.first = write_whole_lem cells f p C.at_first in
      let value : whole (f.lowest +ℤ pos C.told) ≡ v = cc C.at_more in
      let last : C.then ≡ S.next = cc C.at_more in
      let told : f.lowest +ℤ pos C.told ≡ get_or cells p (pos 0) = +ℤ_comm f.lowest (pos C.told) ∙ ap (λ (z : ℤ). z +ℤ f.lowest) (sym W.is) ∙ -ℤ-+ℤ_cancel (get_or cells p (pos 0)) f.lowest in
      record { is = sym value ∙ ap whole told; enough = W.enough; next = W.next ∙ last; above = C.told; within = W.within; cell = told }

  pub number_told : (the_rows row).kind < kinds.sequence → (v ≡ whole (get_or cells p (pos 0))) × (p < length cells)
  number_told h = let N = numbered h in (N.is, N.enough)

  module _ {tb : List ℕ} (table : tb ≡ numbers rows) where
    -- ---- a sequence

    module _ (is : (the_rows row).kind ≡ kinds.sequence) (k : ℕ) (among : k < (the_rows row).count) where
      abbrev first : ℕ
      first = (the_rows row).first

      abbrev fs : Fields
      fs = fields_of the_rows ty first (the_rows row).count

      known : row < 414
      known = kind_known row (λ z. let y : ◌≡◌ {A = ℕ} 2 0 = sym is ∙ z in omega arith)

      apart : Sequence cells fs p v S.next
      apart = seq_apart cells fs p (ap (λ (t : Ty). write t cells p) (sym (body_sequence row is)) ∙ body_stands.1)

      parts_are : parts_of v ≡ apart.parts
      unfolding parts_of
      parts_are = ap parts_of apart.is

      component : Found cells table k first p (p + optionals fs) (parts_of v)
      component = rw parts_are (found cells table k (the_rows row).count first p (p + optionals fs) among (omega (arith, sequence_reach row is, known)) (sequence_parts row is) (apart.inside S.inside) apart.stands)

      abbrev here : ℕ
      here = here_from tb k first cells p

      flags_same : flags (components_of tb row) writer cells p ≡ ok apart.flags_told apart.flags_bits (p + optionals fs)
      flags_same =
          ap (λ (r : Row). flags (fields_of (root_at tb) (type_of (root_at tb)) r.first r.count) writer cells p) (row_is table row)
          ∙ ap (λ (t : ℕ → Row). flags (fields_of t (type_of t) first (the_rows row).count) writer cells p) (root_same table)
          ∙ apart.flagged

      component_is : component_at tb row k cells p ≡ part_by (part_row row k) here (Ok component.place)
      unfolding component_at onward end_by
      component_is = rw (flags_same, row_is table row, is, lt-ltb k (the_rows row).count among, le-ltb (length cells) p S.inside, row_is table ((the_rows row).first + k), component.front) refl

      -- it is there exactly where the presence cell says so
      pub has_told : has_at tb row k cells p ≡ has k (parts_of v)
      unfolding has_at
      has_told = rw (row_is table row, is, lt-ltb k (the_rows row).count among, le-ltb (length cells) p S.inside) (sym component.here)

      -- one that is not OPTIONAL is always there
      pub always_there : (the_rows (first + k)).mark ≡ 0 → has k (parts_of v) ≡ true
      always_there e = component.here ∙ rw (here_must cells table k first p e) refl

      pub component_holds : Holds cells row k (parts_of v) (component_at tb row k cells p)
      unfolding part_by
      component_holds = rw component_is (go here refl)
        where
          go : (n : ℕ) → here ≡ n → Holds cells row k (parts_of v) (part_by (part_row row k) n (Ok component.place))
          go zero en = component.here ∙ rw en refl
          go (suc n) en = (refl, component.here ∙ rw (en, ne_eqb (suc n) 0 (λ z. omega arith)) refl, component.stands (λ z. let y : suc n ≡ 0 = sym en ∙ z in omega arith))

    -- ---- a choice

    module _ (is : (the_rows row).kind ≡ kinds.choice) where
      abbrev alts : Alts
      alts = alts_of the_rows ty (the_rows row).first (span_of (the_rows row))

      alternatives : Chosen cells alts p v S.next
      alternatives = choice_apart cells row alts p (ap (λ (t : Ty). write t cells p) (sym (body_choice row is)) ∙ body_stands.1)

      abbrev index : ℕ
      index = alternatives.index

      index_within : index ≤ span_of (the_rows row)
      index_within = omega (arith, alternatives.within, last_of the_rows ty (span_of (the_rows row)) (the_rows row).first)

      chosen_is : chosen_at tb row cells p ≡ Ok (record { index = index; row = part_row row index; place = p + 1 })
      unfolding chosen_at choice_by
      chosen_is = rw (row_is table row, is, ← last_of the_rows ty (span_of (the_rows row)) (the_rows row).first, alternatives.picked, row_is table ((the_rows row).first + index)) refl

      part_column : (i : ℕ) → (the_rows i).first ≡ column tb i columns.first
      unfolding row_at
      part_column i = sym (ap (λ (r : Row). r.first) (row_is table i))

      alternative_is : alternative alts index writer cells ≡ write (ty (part_row row index)) cells
      alternative_is =
          ap (λ (t : ℕ → Row). alternative (alts_of t ty (the_rows row).first (span_of (the_rows row))) index writer cells) (sym (root_same table))
          ∙ at_chosen writer cells tb ty (the_rows row).first (span_of (the_rows row)) index (part_column ((the_rows row).first + index)) index_within

      pub chosen_picks : Picks cells row v (chosen_at tb row cells p)
      chosen_picks =
          let here : value_at cells (part_row row index) (p + 1) ≡ ok alternatives.inner alternatives.bits S.next = ap (λ f. f (p + 1)) (sym alternative_is) ∙ alternatives.stands in
          rw chosen_is (refl, alternatives.inner, alternatives.is, record { bits = alternatives.bits; next = S.next; is = here; inside = omega (arith, alternatives.enough) })

    -- ---- a list

    module _ (is : (the_rows row).kind ≡ kinds.list) where
      abbrev least : ℕ
      least = natural (the_rows row).lowest

      listing : Listed cells least (span_of (the_rows row)) (ty (the_rows row).first) p v S.next
      listing = list_apart cells row least (span_of (the_rows row)) (ty (the_rows row).first) p (ap (λ (t : Ty). write t cells p) (sym (body_list row is)) ∙ body_stands.1)

      entries_is : entries_at tb row cells p ≡ Ok (record { count = least + listing.more; row = entry_row row; place = listing.start })
      unfolding entries_at listed_by
      entries_is = rw (row_is table row, is, le-ltb (length cells) p S.inside, listing.size) refl

      items_are : items_of v ≡ listing.values
      unfolding items_of
      items_are = ap items_of listing.is

      -- of a fixed size there are so many
      pub fixed_size : {l : Listing} → span_of (the_rows row) ≡ 0 → entries_at tb row cells p ≡ Ok l → l.count ≡ least
      unfolding sized
      fixed_size {l} z e =
          let sizes : ok 0 [] p ≡ ok listing.more listing.told listing.start = rw z at listing.size in
          let more : listing.more ≡ 0 = cc in
          let both : Ok (record { count = least + listing.more; row = entry_row row; place = listing.start }) ≡ Ok l = sym entries_is ∙ e in
          let same : record { count = least + listing.more; row = entry_row row; place = listing.start } ≡ l = cc in
          omega (arith, ap (λ (x : Listing). x.count) same)

      pub entries_list : Lists cells row v (entries_at tb row cells p)
      entries_list = rw (entries_is, items_are) (refl, record { bits = listing.bits; next = S.next; are = listing.stands; inside = listing.inside S.inside })

-- ---- entry by entry

module _ (cells : List ℤ) (row at left : ℕ) {vs : Values} (h : 0 < left) (E : Entries cells row at left vs) where
  pub record Entry : Type 0 where
    pub value : Value
    pub rest : Values
    pub is : vs ≡ item value rest
    pub stands : Stands cells row at value
    pub behind : Entries cells row stands.next (left - 1) rest

  pub entry : Entry
  entry = let g = go left h E.are in record { value = g.0; rest = g.1; is = g.2; stands = g.3; behind = g.4 }
    where
      go : (left : ℕ) → 0 < left → times left (write (ty row)) cells at ≡ ok vs E.bits E.next → (value : Value) × (rest : Values) × (vs ≡ item value rest) × (S : Stands cells row at value) × Entries cells row S.next (left - 1) rest
      go zero l e = absurd (omega arith)
      go (suc n) l e =
          let I = item_apart cells (ty row) n at e in
          let S : Stands cells row at I.value = record { bits = I.bits; next = I.next; is = I.stands; inside = E.inside } in
          let m : n ≡ suc n - 1 = omega arith in
          (I.value, I.rest, I.is, S, record { bits = I.more; next = E.next; are = ap (λ (k : ℕ). times k (write (ty row)) cells I.next) (sym m) ∙ I.behind; inside = stands_inside cells row at S })

-- no entry is left
pub entries_none : (cells : List ℤ) (row at left : ℕ) {vs : Values} → left ≡ 0 → Entries cells row at left vs → vs ≡ no_items
unfolding times pure
entries_none cells row at left {vs} z E =
    let e : times 0 (write (ty row)) cells at ≡ ok vs E.bits E.next = ap (λ (n : ℕ). times n (write (ty row)) cells at) (sym z) ∙ E.are in
    let same : no_items ≡ vs = cc in sym same
