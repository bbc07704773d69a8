-- What a call of one party answers.
-- Assumes nothing.
use Prim.Native.Nat.{ℕ, ◌<◌, ◌≤◌}
use native.Mathlib.Omega.{arith}
use mathlib.Core.Path.{◌≡◌, refl}
use mathlib.Core.List.{List}
use borrow.Author.Tests.{lt-ltb, le-ltb}
use Rattle.answers.specs.GivenBack as number
use Rattle.senders.specs.Table.{nobody, reported, dropped, shown}
use Rattle.parties.specs.Parties.{share_of, given, unknown_party, reported_by, dropped_by, shown_by}
use Rattle.parties.specs.declared.Parties.{Parties}

module _ (party : ℕ) (p : Parties) where
  -- ---- no such party

  module _ (none : 1 < party) where
    pub report_unknown : (kind : ℕ) (id : List ℕ) (count : ℕ) → reported_by p party kind id count ≡ unknown_party p
    unfolding reported_by
    report_unknown kind id count = rw (le-ltb party 2 (omega arith)) refl

    pub drop_unknown : (kind : ℕ) (id : List ℕ) → dropped_by p party kind id ≡ unknown_party p
    unfolding dropped_by
    drop_unknown kind id = rw (le-ltb party 2 (omega arith)) refl

    pub show_unknown : (row : ℕ) → shown_by p party row ≡ record { number = number.unknown_party; sender = nobody }
    unfolding shown_by
    show_unknown row = rw (le-ltb party 2 (omega arith)) refl

  -- ---- one of the two

  module _ (one : party ≤ 1) where
    pub report_given : (kind : ℕ) (id : List ℕ) (count : ℕ) → reported_by p party kind id count ≡ given p party (reported (share_of party p) kind id count)
    unfolding reported_by
    report_given kind id count = rw (lt-ltb party 2 (omega arith)) refl

    pub drop_given : (kind : ℕ) (id : List ℕ) → dropped_by p party kind id ≡ given p party (dropped (share_of party p) kind id)
    unfolding dropped_by
    drop_given kind id = rw (lt-ltb party 2 (omega arith)) refl

    pub show_own : (row : ℕ) → shown_by p party row ≡ shown (share_of party p) row
    unfolding shown_by
    show_own row = rw (lt-ltb party 2 (omega arith)) refl
