-- The entries of a list, one by one: the first of which something is told.
-- Assumes nothing.
use Rattle.std.proofs.Common.{◌≡◌, ℕ, suc, ◌+◌, ◌-◌, ◌<◌, List, Option, Some, None, refl, sym, subst, arith}
use lib.IntN.{ℤ}
use Rattle.types.specs.Rows.{rows}
use Rattle.types.specs.Table.{numbers}
use Rattle.meaning.specs.Values.{Value, Values, no_items, item}
use Rattle.sheet.specs.Standing.{Stands, Entries}
use Rattle.sheet.proofs.Standing.{entries_none}
use Rattle.messages.specs.Seeking.{Sought}
use Rattle.messages.specs.Seeking.Sought.{at_end, told_here, told_later}
use Rattle.messages.specs.Taking.{behind_at}
use Rattle.sheet.specs.declared.Listing.{Listing}
use Rattle.messages.proofs.Entries.{Next, next_entry}

module _ {T : Type 0} (answers : ℕ → Option T → Type 0) (cells : List ℤ) (list : Listing) (row at left i : ℕ) {vs : Values} (E : Entries cells list.row at left vs) where
  pub none_left : left ≡ 0 → Sought answers cells list row i vs None
  none_left z = subst (λ (ws : Values). Sought answers cells list row i ws None) (sym (entries_none cells list.row at left z E)) at_end

  module _ {tb : List ℕ} (table : tb ≡ numbers rows) (known : list.row < 414) (h : 0 < left) (er : list.row ≡ row) {said : Option T} (says : answers at said) where
    stands : {v : Value} → Stands cells list.row at v → Stands cells row at v
    stands {v} = subst (λ (r : ℕ). Stands cells r at v) er

    pub said_here : {t : T} → said ≡ Some t → Sought answers cells list row i vs (Some (i, t))
    said_here {t} e =
        let N : Next cells list.row at left table known h E (behind_at tb list.row cells at) = next_entry cells list.row at left table known h E refl in
        subst (λ (ws : Values). Sought answers cells list row i ws (Some (i, t))) (sym N.is) (told_here er (stands N.stands) (subst (answers at) e says))

    pub said_later : said ≡ None → {next less : ℕ} → next ≡ behind_at tb list.row cells at → less ≡ left - 1
        → (rest : Values) × Entries cells list.row next less rest × ((told : Option (ℕ × T)) → Sought answers cells list row (i + 1) rest told → Sought answers cells list row i vs told)
    said_later e {next} {less} en el =
        let N : Next cells list.row at left table known h E next = next_entry cells list.row at left table known h E en in
        let one : i + 1 ≡ suc i = omega arith in (
          N.rest,
          subst (λ (n : ℕ). Entries cells list.row next n N.rest) (sym el) N.are,
          λ told S. subst (λ (ws : Values). Sought answers cells list row i ws told) (sym N.is)
              (told_later er (stands N.stands) (subst (answers at) e says) (subst (λ (n : ℕ). Sought answers cells list row n N.rest told) one S)),
        )
