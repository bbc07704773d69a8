-- Which plans are good, apart from any loop (document 02, A9): sentences with "for all" and "there is".
use Rattle.std.specs.Prelude.{ℕ, suc, ◌<◌, ◌≤◌, ◌≡◌, Bool, true, List, [], ◌∷◌, ◌++◌, ℤ, pos, length, get_or, eqb}
use Rattle.answers.specs.GivenBack as given
use Rattle.answers.specs.Refusals.{refusal}
use Rattle.messages.specs.Message.{message_in}
use Rattle.messages.specs.Places.{At}
use Rattle.rules.specs.Rsi.{ruling, passes}
use Rattle.rules.specs.Ruling.{Ruling}
use Rattle.packing.specs.Entries.{header_in, pieces, entries_of, most_in}
use Rattle.packing.specs.Message.{joined, message_octets}
use Rattle.plans.specs.Planner.{numbers_from, Made, made, not_made}
use Rattle.plans.specs.Plans.{plan, plan_of, named}
use Rattle.answers.specs.declared.reasons.Reason.TheVariants as reason

-- entry i stands in message m at place p
abbrev pub Stands : List (List ℤ) → ℕ → ℕ → ℕ → Type 0
Stands messages i m p = (cells : List ℤ) × At m cells messages × At p (pos i) cells

-- "every entry in exactly one message", and in it once
abbrev pub Once : List (List ℤ) → ℕ → Type 0
Once messages i = (m : ℕ) × (p : ℕ) × Stands messages i m p × ((n q : ℕ) → Stands messages i n q → (n ≡ m) × (q ≡ p))

-- a message of a plan for entries of these cells
pub record Fits (signs : Bool) (header : List ℤ) (entries : List (List ℤ)) (limit : ℕ) (cells : List ℤ) : Type 0 where
  pub some : ¬ (cells ≡ [])  -- "No message in a plan is empty"
  pub there : (p : ℕ) (cell : ℤ) → At p cell cells → (i : ℕ) × (cell ≡ pos i) × (i < length entries)
  pub ordered : (p q i j : ℕ) → p < q → At p (pos i) cells → At q (pos j) cells → i < j  -- "order kept inside each message"
  pub few : length cells ≤ most_in signs  -- "no more entries than its list type allows"
  pub short : message_octets signs header (named entries cells) ≤ limit  -- "no more than the byte limit .., measured by the writer's own length"

pub record Good (signs : Bool) (header : List ℤ) (entries messages : List (List ℤ)) (limit : ℕ) : Type 0 where
  pub once : (i : ℕ) → i < length entries → Once messages i
  pub fit : (m : ℕ) (cells : List ℤ) → At m cells messages → Fits signs header entries limit cells

-- kind, header and entries are of their form: these are the cells of the entries
pub record Given (kind : ℕ) (header entries : List ℤ) (signs : Bool) (held : List (List ℤ)) : Type 0 where
  pub known : kind < 2
  pub is : eqb kind 1 ≡ signs
  pub headed : header_in (message_in header) ≡ true
  pub listed : entries_of signs entries ≡ pieces held

-- and so is the plan: these are the numbers of the entries in each message
pub record Formed (kind : ℕ) (header entries cells : List ℤ) (signs : Bool) (held messages : List (List ℤ)) : Type 0 where
  pub input : Given kind header entries signs held
  pub planned : plan_of cells ≡ plan messages

abbrev pub Limit : ℕ → Type 0
Limit limit = (1 ≤ limit) × (limit ≤ 2048)

-- ---- the numbers, exactly when: each ruling with what holds of the input

pub data PlanSays (kind : ℕ) (header entries cells : List ℤ) (limit : ℕ) : Ruling → Type 0 where
  no_input : ((signs : Bool) (held messages : List (List ℤ)) → Formed kind header entries cells signs held messages → ⊥) → PlanSays kind header entries cells limit (ruling given.no_value 0)
  no_limit : {signs : Bool} {held messages : List (List ℤ)} → Formed kind header entries cells signs held messages → ¬ (Limit limit) → PlanSays kind header entries cells limit (ruling given.outside 0)
  not_once : {signs : Bool} {held messages : List (List ℤ)} {i : ℕ} → Formed kind header entries cells signs held messages → Limit limit
      → i < length held → (Once messages i → ⊥) → ((j : ℕ) → j < i → Once messages j)
      → PlanSays kind header entries cells limit (ruling given.entry_not_once i)
  misfits : {signs : Bool} {held messages : List (List ℤ)} {m : ℕ} {message : List ℤ} → Formed kind header entries cells signs held messages → Limit limit
      → ((i : ℕ) → i < length held → Once messages i)
      → At m message messages → (Fits signs header held limit message → ⊥) → ((k : ℕ) (earlier : List ℤ) → k < m → At k earlier messages → Fits signs header held limit earlier)
      → PlanSays kind header entries cells limit (ruling given.wrong_message m)
  good : {signs : Bool} {held messages : List (List ℤ)} → Formed kind header entries cells signs held messages → Limit limit
      → Good signs header held messages limit → PlanSays kind header entries cells limit passes

-- ---- the planner

-- "some single entry alone is over the limit"
abbrev pub TooLong : Bool → List ℤ → List (List ℤ) → ℕ → ℕ → Type 0
TooLong signs header held limit i = limit < message_octets signs header (get_or held i [] ∷ [])

-- a plan that "fills messages in order"
pub record Filled (signs : Bool) (header : List ℤ) (held messages : List (List ℤ)) (limit : ℕ) : Type 0 where
  pub good : Good signs header held messages limit
  pub in_order : joined messages ≡ numbers_from 0 (length held)  -- the entries one behind the other, across all messages
  pub full : (m i : ℕ) (cells rest : List ℤ) → At m cells messages → At (suc m) (pos i ∷ rest) messages → ¬ (Fits signs header held limit (cells ++ pos i ∷ []))  -- no message has room for the entry that begins the next one

-- each answer of the planner, with what holds of the input
pub data PlannerSays (kind : ℕ) (header entries : List ℤ) (limit : ℕ) : Made → Type 0 where
  no_input : ((signs : Bool) (held : List (List ℤ)) → Given kind header entries signs held → ⊥) → PlannerSays kind header entries limit (not_made (refusal reason.NoValue 0))
  no_limit : {signs : Bool} {held : List (List ℤ)} → Given kind header entries signs held → ¬ (Limit limit) → PlannerSays kind header entries limit (not_made (refusal reason.Outside 0))
  too_long : {signs : Bool} {held : List (List ℤ)} {i : ℕ} → Given kind header entries signs held → Limit limit
      → i < length held → TooLong signs header held limit i → ((j : ℕ) → j < i → ¬ (TooLong signs header held limit j))
      → PlannerSays kind header entries limit (not_made (refusal reason.EntryTooLong i))
  plans : {signs : Bool} {held messages : List (List ℤ)} → Given kind header entries signs held → Limit limit
      → ((i : ℕ) → i < length held → ¬ (TooLong signs header held limit i)) → Filled signs header held messages limit
      → PlannerSays kind header entries limit (made messages)
