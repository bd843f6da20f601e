-- A test, which computes, whether lists are those of a valid instance: for who writes an instance out.
use Rattle.std.specs.Prelude.{◌≡◌, ℕ, ◌*◌, ◌-◌, ◌^◌, Bool, true, ◌||◌, ◌&&◌, not, nat_le, nat_lt, nat_eq, List, length, slice_index, slice_index_or}
use Rattle.std.specs.List.{list_any, list_all}
use Rattle.seq_theory.specs.Problem.{Problem, count_up, weight_of, all_classes}
use Rattle.seq_theory.specs.States.{same}
use Rattle.seq_inst.specs.declared.group.Group.{Group}
use Rattle.seq_inst.specs.Valid.{problem_from, no_class, IsValid}

-- some test answers differently for the classes, or they are one
abbrev pub is_told_pair : Problem → ℕ → ℕ → Bool
is_told_pair p a b = nat_eq a b || list_any (λ t. not (same (p.passes t a) (p.passes t b))) (count_up 0 p.tests)

abbrev pub are_told : Problem → Bool
are_told p = list_all (λ a. list_all (λ b. is_told_pair p a b) (count_up 0 p.classes)) (count_up 0 p.classes)

-- no word of the group has a bit of a class from n on
abbrev pub is_below : ℕ → Group → Bool
is_below n g = list_all (λ k. nat_lt (slice_index g.0 k) (2 ^ (n - 64 * k))) (count_up 0 8)

abbrev pub is_cost : ℕ → Bool
is_cost c = nat_le 1 c && nat_le c 1000000

abbrev pub is_valid : List ℕ → List ℕ → List Group → Bool
is_valid ws cs ps =
    nat_le 1 (length ws) && (nat_le (length ws) 512 && (list_all (nat_le 1) ws && (nat_le (weight_of (problem_from ws cs ps) (all_classes (problem_from ws cs ps))) 4097000000
    && (nat_le (length cs) 256 && (list_all is_cost cs && (nat_eq (length ps) (length cs) && (list_all (λ t. is_below (length ws) (slice_index_or ps t no_class)) (count_up 0 (length ps)) && are_told (problem_from ws cs ps))))))))

-- lists that pass the test are those of a valid instance, and so are the same lists by other names
abbrev pub CheckedHolds : Type 0
CheckedHolds = (weights ws costs cs : List ℕ) (passes ps : List Group) → weights ≡ ws → costs ≡ cs → passes ≡ ps → is_valid ws cs ps ≡ true → IsValid weights costs passes
