-- The two rules on single faults and tests, by rows of tests: what each fault is called without a look at sets of faults.
use Rattle.std.specs.Prelude.{◌≡◌, ℕ, ◌<◌, Bool, true, false, not, ◌&&◌, ◌||◌, List, [], length, slice_index_or}
use Rattle.sig_matrix.specs.Detection.{in_row}
use Rattle.sig_reason.specs.declared.found.Label.{Label}
use Rattle.sig_reason.specs.declared.found.Label.TheVariants.{Good, Bad, Suspect, Unknown}
use Rattle.sig_reason.specs.declared.causes.Standing.{Standing}
use Rattle.sig_reason.specs.declared.rules.Tally.{Tally}
use Rattle.sig_reason.specs.Causes.{no_standing, is_cause_in}

-- a tally gains a fault that is a cause of these tests
pub record AddsCauses (old : Tally) (causes : List ℕ) (new : Tally) : Type 0 where
  pub some : (t : ℕ) → t < 256 → in_row new.some t ≡ (in_row old.some t || in_row causes t)
  pub several : (t : ℕ) → t < 256 → in_row new.several t ≡ (in_row old.several t || (in_row old.some t && in_row causes t))

-- which tests have a cause, and which more than one, among the first n faults
pub record IsTally (standings : List Standing) (n : ℕ) (tally : Tally) : Type 0 where
  pub some : (t : ℕ) → t < 256 → in_row tally.some t ≡ true → (f : ℕ) × (f < n) × (is_cause_in standings f t ≡ true)
  pub none : (t : ℕ) → t < 256 → in_row tally.some t ≡ false → (f : ℕ) → f < n → is_cause_in standings f t ≡ false
  pub several : (t : ℕ) → t < 256 → in_row tally.several t ≡ true → (f : ℕ) × (g : ℕ) × (f < g) × (g < n) × (is_cause_in standings f t ≡ true) × (is_cause_in standings g t ≡ true)
  pub lone : (t : ℕ) → t < 256 → in_row tally.several t ≡ false → (f g : ℕ) → f < n → g < n → is_cause_in standings f t ≡ true → is_cause_in standings g t ≡ true → f ≡ g

-- a row gains these tests, where the one test isn't among them
pub record AddsOutside (old causes : List ℕ) (test : ℕ) (new : List ℕ) : Type 0 where
  pub tests : (u : ℕ) → u < 256 → in_row new u ≡ (in_row old u || (in_row causes u && not (in_row causes test)))

-- the tests with a cause, among the first n faults, that isn't one of the test
pub record IsOutside (standings : List Standing) (test n : ℕ) (row : List ℕ) : Type 0 where
  pub outside : (u : ℕ) → u < 256 → in_row row u ≡ true → (g : ℕ) × (g < n) × (is_cause_in standings g u ≡ true) × (is_cause_in standings g test ≡ false)
  pub within : (u : ℕ) → u < 256 → in_row row u ≡ false → (g : ℕ) → g < n → is_cause_in standings g u ≡ true → is_cause_in standings g test ≡ true

-- the failed tests whose causes are all among the test's
pub record IsWithin (standings : List Standing) (failed : List ℕ) (test : ℕ) (row : List ℕ) : Type 0 where
  pub fails : (u : ℕ) → u < 256 → in_row row u ≡ true → in_row failed u ≡ true
  pub within : (u : ℕ) → u < 256 → in_row row u ≡ true → (g : ℕ) → g < length standings → is_cause_in standings g u ≡ true → is_cause_in standings g test ≡ true
  pub outside : (u : ℕ) → u < 256 → in_row failed u ≡ true → in_row row u ≡ false → (g : ℕ) × (g < length standings) × (is_cause_in standings g u ≡ true) × (is_cause_in standings g test ≡ false)

-- for each failed test below a number, the failed tests whose causes are all among its own
pub record AreWithins (standings : List Standing) (failed : List ℕ) (tests : ℕ) (rows : List (List ℕ)) : Type 0 where
  pub each : (k : ℕ) → k < length rows → (t : ℕ) × (t < 256) × (in_row failed t ≡ true) × IsWithin standings failed t (slice_index_or rows k [])
  pub all : (t : ℕ) → t < tests → in_row failed t ≡ true → (k : ℕ) × (k < length rows) × IsWithin standings failed t (slice_index_or rows k [])

-- one of the rows has only tests of which the fault is a cause
abbrev pub NeedsOne : List ℕ → List (List ℕ) → Type 0
NeedsOne causes rows = (k : ℕ) × (k < length rows) × ((u : ℕ) → u < 256 → in_row (slice_index_or rows k []) u ≡ true → in_row causes u ≡ true)

-- each of the first rows has a test of which the fault isn't a cause
abbrev pub SparesEach : List ℕ → List (List ℕ) → ℕ → Type 0
SparesEach causes rows n = (k : ℕ) → k < n → (u : ℕ) × (u < 256) × (in_row (slice_index_or rows k []) u ≡ true) × (in_row causes u ≡ false)

-- the fault is the only cause of some test
abbrev pub IsAlone : Standing → List ℕ → Type 0
IsAlone s several = (t : ℕ) × (t < 256) × (in_row s.causes t ≡ true) × (in_row several t ≡ false)

-- each test of which the fault is a cause has several
abbrev pub HasCompany : Standing → List ℕ → Type 0
HasCompany s several = (t : ℕ) → t < 256 → in_row s.causes t ≡ true → in_row several t ≡ true

-- what a fault is called by the rules
abbrev pub IsRuled : Standing → List ℕ → List (List ℕ) → Label → Type 0
IsRuled s several withins Good = s.clear ≡ false
IsRuled s several withins Bad = (s.clear ≡ true) × IsAlone s several
IsRuled s several withins Suspect = (s.clear ≡ true) × HasCompany s several × NeedsOne s.causes withins
IsRuled s several withins Unknown = (s.clear ≡ true) × HasCompany s several × SparesEach s.causes withins (length withins)

-- what each fault is called by the rules
pub record AreRuled (standings : List Standing) (several : List ℕ) (withins : List (List ℕ)) (labels : List Label) : Type 0 where
  pub long : length labels ≡ length standings
  pub each : (f : ℕ) → f < length standings → IsRuled (slice_index_or standings f no_standing) several withins (slice_index_or labels f Unknown)
