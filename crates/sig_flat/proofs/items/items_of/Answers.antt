use Rattle.std.proofs.Common.{◌≡◌, List, [], length, ap, sym, ◌∙◌, subst, arith}
use Rattle.std.specs.Prelude.{slice_index_or}
use Rattle.std.specs.List.{AllZip, Contains, flat_map}
use Rattle.std.proofs.lemmas.List.{length-map}
use Rattle.sig_flat.specs.declared.pattern.Pattern.{Pattern}
use Rattle.sig_flat.specs.declared.links.LinkPattern.{LinkPattern}
use Rattle.sig_flat.specs.declared.walk.Placed.{Placed}
use Rattle.sig_flat.specs.Instances.{nodes, links, faults, tests}
use Rattle.sig_flat.specs.Flats.{IsNodeOf, IsLinkOf, IsFaultOf, IsTestOf}
use Rattle.sig_flat.specs.Patterns.{pattern_of}
use Rattle.sig_flat.specs.Placed.{node_copies, link_copies, fault_copies, test_copies, no_pattern, LinksFit, FaultsFit, TestsFit, PrefixesShown}
use Rattle.sig_flat.specs.Surveys.{patterns_of_model}
use Rattle.sig_flat.proofs.items.items_of.Goals as goal

pub nodes_of_all-requires-clause-there : goal.nodes_of_all-requires-clause-there
nodes_of_all-requires-clause-there c = λ p i.
    let there = c.in_ok-placing.ensures.placing.there p (subst (λ (l : List Placed). Contains l p) c.as_slice-placed.ensures i) in
    let long = ap length (c.as_slice-patterns.ensures.value ∙ c.requires.survey.patterns) ∙ length-map c.args.valid.now.blocks (pattern_of c.args.valid.now.signals c.args.valid.now.modes) in
    omega arith

pub nodes_of_all-requires-clause-shown : goal.nodes_of_all-requires-clause-shown
nodes_of_all-requires-clause-shown c = subst PrefixesShown (sym c.as_slice-placed.ensures) c.in_ok-placing.ensures.shown

pub links_of_all-requires-clause-there : goal.links_of_all-requires-clause-there
links_of_all-requires-clause-there c = λ p i.
    let there = c.in_ok-placing.ensures.placing.there p (subst (λ (l : List Placed). Contains l p) c.as_slice-placed.ensures i) in
    let long = ap length c.as_slice.ensures.value ∙ c.in_ok-placing.ensures.placing.long in
    omega arith

pub links_of_all-requires-clause-fit : goal.links_of_all-requires-clause-fit
links_of_all-requires-clause-fit c = λ p i.
    subst (λ (l : List (List LinkPattern)). LinksFit p (slice_index_or l p.block [])) (sym c.as_slice.ensures.value)
    (c.in_ok-placing.ensures.placing.links_fit p (subst (λ (l : List Placed). Contains l p) c.as_slice-placed.ensures i))

pub faults_of_all-requires-clause-there : goal.faults_of_all-requires-clause-there
faults_of_all-requires-clause-there c = λ p i.
    let there = c.in_ok-placing.ensures.placing.there p (subst (λ (l : List Placed). Contains l p) c.as_slice-placed.ensures i) in
    let long = ap length (c.as_slice-patterns.ensures.value ∙ c.requires.survey.patterns) ∙ length-map c.args.valid.now.blocks (pattern_of c.args.valid.now.signals c.args.valid.now.modes) in
    omega arith

pub faults_of_all-requires-clause-fit : goal.faults_of_all-requires-clause-fit
faults_of_all-requires-clause-fit c = λ p i.
    subst (λ (l : List Pattern). FaultsFit p (slice_index_or l p.block no_pattern).faults) (sym (c.as_slice-patterns.ensures.value ∙ c.requires.survey.patterns))
    (c.in_ok-placing.ensures.placing.faults_fit p (subst (λ (l : List Placed). Contains l p) c.as_slice-placed.ensures i))

pub faults_of_all-requires-clause-shown : goal.faults_of_all-requires-clause-shown
faults_of_all-requires-clause-shown c = subst PrefixesShown (sym c.as_slice-placed.ensures) c.in_ok-placing.ensures.shown

pub tests_of_all-requires-clause-there : goal.tests_of_all-requires-clause-there
tests_of_all-requires-clause-there c = λ p i.
    let there = c.in_ok-placing.ensures.placing.there p (subst (λ (l : List Placed). Contains l p) c.as_slice-placed.ensures i) in
    let long = ap length (c.as_slice-patterns.ensures.value ∙ c.requires.survey.patterns) ∙ length-map c.args.valid.now.blocks (pattern_of c.args.valid.now.signals c.args.valid.now.modes) in
    omega arith

pub tests_of_all-requires-clause-fit : goal.tests_of_all-requires-clause-fit
tests_of_all-requires-clause-fit c = λ p i.
    subst (λ (l : List Pattern). TestsFit p (slice_index_or l p.block no_pattern).tests) (sym (c.as_slice-patterns.ensures.value ∙ c.requires.survey.patterns))
    (c.in_ok-placing.ensures.placing.tests_fit p (subst (λ (l : List Placed). Contains l p) c.as_slice-placed.ensures i))

pub tests_of_all-requires-clause-shown : goal.tests_of_all-requires-clause-shown
tests_of_all-requires-clause-shown c = subst PrefixesShown (sym c.as_slice-placed.ensures) c.in_ok-placing.ensures.shown

pub returns : goal.returns
returns c =
    let patterns : c.as_slice-patterns.result.now ≡ patterns_of_model c.args.valid.now = c.as_slice-patterns.ensures.value ∙ c.requires.survey.patterns in
    let placed = c.as_slice-placed.ensures in
    let ip = c.in_ok-placing.ensures.placing in
    record {
      nodes = subst (AllZip (IsNodeOf c.args.valid.now) (nodes c.args.valid.now)) (sym (c.in_ok-nodes.ensures.nodes ∙ ap (λ (l : List Pattern). flat_map (node_copies l) c.as_slice-placed.result.now) patterns ∙ ap (flat_map (node_copies (patterns_of_model c.args.valid.now))) placed)) ip.nodes;
      links = subst (AllZip (IsLinkOf c.args.valid.now) (links c.args.valid.now)) (sym (c.in_ok-links.ensures ∙ ap (λ (l : List (List LinkPattern)). flat_map (link_copies l) c.as_slice-placed.result.now) c.as_slice.ensures.value ∙ ap (flat_map (link_copies c.in_ok-placing.placing.links.items)) placed)) ip.links;
      faults = subst (AllZip (IsFaultOf c.args.valid.now) (faults c.args.valid.now)) (sym (c.in_ok-faults.ensures.faults ∙ ap (λ (l : List Pattern). flat_map (fault_copies l) c.as_slice-placed.result.now) patterns ∙ ap (flat_map (fault_copies (patterns_of_model c.args.valid.now))) placed)) ip.faults;
      tests = subst (AllZip (IsTestOf c.args.valid.now) (tests c.args.valid.now)) (sym (c.in_ok-tests.ensures.tests ∙ ap (λ (l : List Pattern). flat_map (test_copies l) c.as_slice-placed.result.now) patterns ∙ ap (flat_map (test_copies (patterns_of_model c.args.valid.now))) placed)) ip.tests;
      weights = c.in_ok-faults.ensures.weights;
      costs = c.in_ok-tests.ensures.costs;
      node_labels = c.in_ok-nodes.ensures.labels;
      fault_labels = c.in_ok-faults.ensures.labels;
      test_labels = c.in_ok-tests.ensures.labels;
    }
