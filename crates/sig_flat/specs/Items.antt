-- The items of the instances of a model, with their weights, costs and labels in range.
use Rattle.std.specs.List.{AllZip}
use Rattle.sig_types.specs.declared.model.Model.{Model}
use Rattle.sig_flat.specs.declared.items.Items.{Items}
use Rattle.sig_flat.specs.Instances.{nodes, links, faults, tests}
use Rattle.sig_flat.specs.Flats.{IsNodeOf, IsLinkOf, IsFaultOf, IsTestOf}
use Rattle.sig_flat.specs.Placed.{WeightsFit, CostsFit, NodesLabelled, FaultsLabelled, TestsLabelled}

pub record AreItemsOf (model : Model) (items : Items) : Type 0 where
  pub nodes : AllZip (IsNodeOf model) (nodes model) items.nodes
  pub links : AllZip (IsLinkOf model) (links model) items.links
  pub faults : AllZip (IsFaultOf model) (faults model) items.faults
  pub tests : AllZip (IsTestOf model) (tests model) items.tests
  pub weights : WeightsFit items.faults
  pub costs : CostsFit items.tests
  pub node_labels : NodesLabelled items.nodes
  pub fault_labels : FaultsLabelled items.faults
  pub test_labels : TestsLabelled items.tests
