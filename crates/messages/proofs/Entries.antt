-- The entries of a component that is a list, of a sequence that stands in a sheet: so many, and one behind the other.
-- Assumes nothing.
use Prim.Native.Nat.{ℕ, zero, suc, ◌-◌, ◌<◌}
use native.Mathlib.Omega.{arith}
use mathlib.Core.Path.{◌≡◌, refl, sym, ap, subst, ◌∙◌}
use mathlib.Core.Bool.{Bool, false}
use mathlib.Core.List.{List, []}
use lib.Dec.{T, eqb, ltb, eqb→eq, ltb→lt}
use lib.IntN.{ℤ}
use Rattle.std.specs.Prelude.{Result, Ok, Err, Option, Some, None}
use Rattle.answers.specs.declared.Refusal.{Refusal}
use Rattle.basics.specs.Lists.{natural}
use Rattle.types.specs.Row.{span_of}
use Rattle.types.specs.Rows.{rows}
use Rattle.types.specs.Rule.{◌&◌}
use Rattle.types.specs.Kinds as kinds
use Rattle.types.specs.Table.{numbers, the_rows}
use Rattle.types.proofs.Depth.{first_part, more_parts}
use Rattle.meaning.specs.Values.{Value, Parts, Values, finished, absent, there, no_items, item}
use Rattle.meaning.specs.Steps.{pure}
use Rattle.meaning.specs.Walk.{times}
use Rattle.sheet.specs.Values.{has, part, parts_of, items_of, entries}
use Rattle.sheet.specs.Standing.{Stands, Entries, part_row, entry_row, Holds, Lists}
use Rattle.sheet.specs.Moving.{component_at, entries_at}
use Rattle.sheet.specs.declared.Part.{Part}
use Rattle.sheet.specs.declared.Listing.{Listing}
use Rattle.sheet.proofs.Components.{passed_to}
use Rattle.sheet.proofs.Standing.{component_holds, entries_list, fixed_size, entry, entries_none}
use Rattle.sheet.proofs.Must.{Must, must_stand, must_be_there, must_be_given}
use Rattle.messages.specs.Message.{message_frame}
use Rattle.messages.specs.Taking.{Framed, many, nothing, listing_by, listing_of, listing_at, Rowed, behind_of, behind_at}

-- ---- what the type table says, as a test: component k of a row is a list

unfoldable pub is_list : ℕ → ℕ → Bool
is_list row k = eqb (the_rows row).kind kinds.sequence & ltb k (the_rows row).count & eqb (the_rows (part_row row k)).kind kinds.list

-- a list component has no entries where it is absent
pub no_entries : (k : ℕ) (ps : Parts) → has k ps ≡ false → entries k ps ≡ no_items
unfolding has entries part items_of
no_entries k finished e = refl
no_entries zero (absent more) e = refl
no_entries zero (there v more) e = absurd (let z : ◌≡◌ {A = ℕ} 0 1 = cc in omega arith)
no_entries (suc k) (absent more) e = no_entries k more e
no_entries (suc k) (there v more) e = no_entries k more e

-- ---- the entries of component k

module _ (cells : List ℤ) (row k place : ℕ) {v : Value} (S : Stands cells row place v) {tb : List ℕ} (table : tb ≡ numbers rows) (t : T (is_list row k)) where
  kind_so : (the_rows row).kind ≡ kinds.sequence
  unfolding is_list
  kind_so = eqb→eq (the_rows row).kind kinds.sequence (first_part (eqb (the_rows row).kind kinds.sequence) (ltb k (the_rows row).count & eqb (the_rows (part_row row k)).kind kinds.list) t)

  others : T (ltb k (the_rows row).count & eqb (the_rows (part_row row k)).kind kinds.list)
  unfolding is_list
  others = more_parts (eqb (the_rows row).kind kinds.sequence) (ltb k (the_rows row).count & eqb (the_rows (part_row row k)).kind kinds.list) t

  among : k < (the_rows row).count
  among = ltb→lt k (the_rows row).count (first_part (ltb k (the_rows row).count) (eqb (the_rows (part_row row k)).kind kinds.list) others)

  list_so : (the_rows (part_row row k)).kind ≡ kinds.list
  list_so = eqb→eq (the_rows (part_row row k)).kind kinds.list (more_parts (ltb k (the_rows row).count) (eqb (the_rows (part_row row k)).kind kinds.list) others)

  none_listed : {vs : Values} → vs ≡ no_items → Rowed cells (entry_row (part_row row k)) nothing vs
  unfolding times pure
  none_listed e = rw e (record { of_row = λ h. absurd (omega arith); are = record { bits = []; next = 0; are = refl; inside = omega arith } })

  by_list : (r : Result Listing Refusal) (at : ℕ) (w : Value) → Lists cells at w r → at ≡ part_row row k → Rowed cells (entry_row (part_row row k)) (listing_by r) (items_of w)
  unfolding listing_by
  by_list (Ok list) at w L ea = record { of_row = λ h. L.0 ∙ ap entry_row ea; are = L.1 }
  by_list (Err why) at w L ea = absurd L

  by_part : (r : Result (Option Part) Refusal) → Holds cells row k (parts_of v) r → Rowed cells (entry_row (part_row row k)) (listing_of tb cells r) (entries k (parts_of v))
  unfolding listing_of entries
  by_part (Ok (Some p)) H =
      by_list (entries_at tb p.row cells p.place) p.row (part k (parts_of v)) (entries_list cells p.row p.place H.2 table (ap (λ (n : ℕ). (the_rows n).kind) H.0 ∙ list_so)) H.0
  by_part (Ok None) H = none_listed (no_entries k (parts_of v) H)
  by_part (Err why) H = absurd H

  pub entries_stand : {l : Listing} → l ≡ listing_at tb row k cells place → Rowed cells (entry_row (part_row row k)) l (entries k (parts_of v))
  entries_stand e = rw e (by_part (component_at tb row k cells place) (component_holds cells row place S table kind_so k among))

  -- of a list of a fixed size that is always there, so many
  module _ (must : Must row k) (fixed : span_of (the_rows (part_row row k)) ≡ 0) where
    abbrev size : ℕ
    size = natural (the_rows (part_row row k)).lowest

    list_size : (r : Result Listing Refusal) (q : ℕ) {w : Value} → Stands cells (part_row row k) q w → entries_at tb (part_row row k) cells q ≡ r → (listing_by r).count ≡ size
    unfolding listing_by
    list_size (Ok list) q W e = fixed_size cells (part_row row k) q W table list_so fixed e
    list_size (Err why) q {w} W e = absurd (subst (Lists cells (part_row row k) w) e (entries_list cells (part_row row k) q W table list_so))

    part_size : (r : Result (Option Part) Refusal) → component_at tb row k cells place ≡ r → (listing_of tb cells r).count ≡ size
    unfolding listing_of
    part_size (Ok (Some p)) e =
        let M = must_stand cells row k place must S table refl e in
        ap (λ (y : ℕ). (listing_by (entries_at tb y cells p.place)).count) M.0 ∙ list_size (entries_at tb (part_row row k) cells p.place) p.place (subst (λ (y : ℕ). Stands cells y p.place (part k (parts_of v))) M.0 M.1) refl
    part_size (Ok None) e = absurd (must_be_there cells row k place must S table refl e)
    part_size (Err why) e = absurd (must_be_given cells row k place must S table refl e)

    pub entries_fixed : {l : Listing} → l ≡ listing_at tb row k cells place → l.count ≡ size
    entries_fixed e = rw e (part_size (component_at tb row k cells place) refl)

-- ---- entry by entry

module _ (cells : List ℤ) (row at left : ℕ) {vs : Values} {tb : List ℕ} (table : tb ≡ numbers rows) (known : row < 414) (h : 0 < left) (E : Entries cells row at left vs) where
  -- the first, and those behind it
  pub record Next (next : ℕ) : Type 0 where
    pub value : Value
    pub rest : Values
    pub is : vs ≡ item value rest
    pub stands : Stands cells row at value
    pub are : Entries cells row next (left - 1) rest

  pub next_entry : {next : ℕ} → next ≡ behind_at tb row cells at → Next next
  unfolding behind_of
  next_entry {next} e =
      let F = entry cells row at left h E in
      let same : F.stands.next ≡ next = sym (e ∙ ap (behind_of at) (passed_to cells row at F.stands table known)) in
      record { value = F.value; rest = F.rest; is = F.is; stands = F.stands; are = subst (λ (q : ℕ). Entries cells row q (left - 1) F.rest) same F.behind }

-- ---- how many entries stand there

pub entries_many : (cells : List ℤ) (row at n : ℕ) {vs : Values} → Entries cells row at n vs → many vs ≡ n
unfolding many
entries_many cells row at zero E = ap many (entries_none cells row at zero refl E)
entries_many cells row at (suc n) E =
    let F = entry cells row at (suc n) (omega arith) E in
    let less : suc n - 1 ≡ n = omega arith in
    ap many F.is ∙ ap suc (entries_many cells row F.stands.next n (subst (λ (k : ℕ). Entries cells row F.stands.next k F.rest) less F.behind))

-- ---- the entries of component k of the message in a frame

pub message_entries : (cells : List ℤ) {tb : List ℕ} → tb ≡ numbers rows → {kind row place : ℕ} (F : Framed cells kind row place) {own : ℕ} → kind ≡ own → (k : ℕ) → T (is_list (part_row message_frame own) k) → {l : Listing} → l ≡ listing_at tb row k cells place → Rowed cells (entry_row (part_row (part_row message_frame own) k)) l (entries k (parts_of F.held))
message_entries cells {tb} table {kind} {row} {place} F {own} is k t e =
    let er : row ≡ part_row message_frame own = F.of_row ∙ ap (part_row message_frame) is in
    entries_stand cells (part_row message_frame own) k place (subst (λ (r : ℕ). Stands cells r place F.held) er F.stands) table t (e ∙ ap (λ (r : ℕ). listing_at tb r k cells place) er)
