-- Texts that are written out, read by the definitions.
use Rattle.std.proofs.Common.{◌≡◌, ℕ, List, [], ◌∷◌, Some, None, codes, refl}
use Rattle.std.specs.Prelude.{take}
use Rattle.std.specs.Str.{is_utf8, chars}
use Rattle.std.specs.Char.{encode_utf8}
use Rattle.toml.proofs.OnLiterals.{toml_on_literals}
use Rattle.sig_types.specs.declared.model.Model.{Model}
use Rattle.sig_types.specs.declared.model.Part.{Part}
use Rattle.sig_types.specs.declared.model.Point.{Point}
use Rattle.sig_types.specs.declared.model.Link.{Link}
use Rattle.sig_types.specs.declared.refusals.Code.{Code}
use Rattle.sig_types.specs.declared.refusals.Code.TheVariants.{M01, M02, M03, M04, M05, M06, M09}
use Rattle.sig_types.specs.declared.refusals.Key.TheVariants.{Version, Good, Top, Signals, Name, Functional, From, Link as LinkKey}
use Rattle.sig_types.specs.declared.refusals.Kind.TheVariants.{Part as PartKind, Link as LinkKind}
use Rattle.sig_types.specs.declared.refusals.Place.{Place}
use Rattle.sig_types.specs.declared.refusals.Place.TheVariants.{Document, In}
use Rattle.sig_types.specs.declared.refusals.Refusal.{Refusal}
use Rattle.sig_text.specs.Texts.{text_breaches, text_model}
use Rattle.sig_text.proofs.Examples.{box, stage, broken}

abbrev part : List ℕ → ℕ → Part
part name weight = record { name = name; functional = Some (record { weight = weight; signals = codes "s" ∷ [] }); general = None; stops = [] }

abbrev point : List ℕ → List ℕ → ℕ → Point
point name test cost = record { name = name; tests = record { name = test; cost = cost; signals = codes "s" ∷ []; mode = None } ∷ [] }

abbrev link : List ℕ → List ℕ → Link
link from to = record { from = record { first = from; second = None }; to = record { first = to; second = None }; modes = [] }

abbrev box_model : Model
box_model = record {
  good = 6;
  top = codes "box";
  signals = codes "s" ∷ [];
  modes = [];
  blocks = record {
    name = codes "box";
    ports = [];
    switches = [];
    parts = part (codes "A") 3 ∷ part (codes "B") 1 ∷ [];
    uses = [];
    points = point (codes "X") (codes "tA") 2 ∷ point (codes "Y") (codes "tB") 1 ∷ [];
    links = link (codes "A") (codes "X") ∷ link (codes "B") (codes "Y") ∷ [];
  } ∷ [];
}

box_has_none : text_breaches box ≡ []
unfolding toml_on_literals is_utf8 chars encode_utf8
box_has_none = refl

box_stands_for : text_model box ≡ box_model
unfolding toml_on_literals is_utf8 chars encode_utf8
box_stands_for = refl

abbrev stage_model : Model
stage_model = record {
  good = 0;
  top = codes "b";
  signals = [];
  modes = codes "m" ∷ [];
  blocks = record {
    name = codes "b";
    ports = codes "in" ∷ [];
    switches = codes "W" ∷ [];
    parts = record { name = codes "P"; functional = None; general = Some 2; stops = codes "s" ∷ [] } ∷ [];
    uses = record { name = codes "u"; block = codes "a" } ∷ [];
    points = record { name = codes "X"; tests = record { name = codes "t"; cost = 1; signals = []; mode = Some (codes "m") } ∷ [] } ∷ [];
    links = record { from = record { first = codes "u"; second = Some (codes "out") }; to = record { first = codes "W"; second = None }; modes = codes "m" ∷ [] } ∷ [];
  } ∷ [];
}

stage_has_none : text_breaches stage ≡ []
unfolding toml_on_literals is_utf8 chars encode_utf8
stage_has_none = refl

stage_stands_for : text_model stage ≡ stage_model
unfolding toml_on_literals is_utf8 chars encode_utf8
stage_stands_for = refl

-- the text ends inside its second line
cut_is_no_document : text_breaches (take 19 box) ≡ record { code = M01; place = Document } ∷ []
unfolding toml_on_literals is_utf8 chars encode_utf8
cut_is_no_document = refl

abbrev at : Code → Place → Refusal
at code place = record { code = code; place = place }

-- all breaches, in order
broken_has_these : text_breaches broken ≡
    at M02 (In None None None (Some Version) None)
    ∷ at M09 (In None None None (Some Good) None)
    ∷ at M03 (In None None None (Some Top) None)
    ∷ at M05 (In None None None (Some Signals) (Some 1))
    ∷ at M06 (In None None None (Some Signals) (Some 2))
    ∷ at M04 (In (Some 0) (Some (PartKind, 0)) None None None)
    ∷ at M03 (In (Some 0) (Some (PartKind, 0)) None (Some Name) None)
    ∷ at M09 (In (Some 0) (Some (PartKind, 1)) None (Some Functional) None)
    ∷ at M03 (In (Some 0) (Some (PartKind, 1)) None (Some Signals) None)
    ∷ at M06 (In (Some 0) (Some (LinkKind, 0)) None (Some From) None)
    ∷ at M05 (In (Some 0) None None (Some LinkKey) (Some 1))
    ∷ []
unfolding toml_on_literals is_utf8 chars encode_utf8
broken_has_these = refl
