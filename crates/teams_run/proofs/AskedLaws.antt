-- What is due before a search, and after it, for the file that is held.
use Rattle.std.proofs.Common.{◌≡◌, ℕ, List, inl, sym, subst}
use Rattle.sig_edge.specs.Shelf.{Holds}
use Rattle.teams_words.specs.declared.plan.Plan.{Plan}
use Rattle.teams_words.specs.declared.plan.Action.TheVariants.{Solve}
use Rattle.teams_run.specs.declared.status.Status.{Status}
use Rattle.teams_run.specs.declared.status.Status.TheVariants.{Done, ModelRefused, Usage, Bounded, ReadFault, WriteFault, NoMemory, Rejected, Missing, TooLong, Conflict}
use Rattle.teams_run.specs.declared.answering.Accepted.{Accepted}
use Rattle.teams_run.specs.declared.preparing.Prepared.{Prepared}
use Rattle.teams_run.specs.declared.due.Due.{Due}
use Rattle.teams_run.specs.declared.asking.Asked.TheVariants.{Told, Search}
use Rattle.teams_run.specs.Asked.{IsAskedOfFile, IsPosed}
use Rattle.teams_run.specs.Runs.{IsDueText, WantsModel}
use Rattle.teams_run.specs.Texts.{IsAnswer, IsDue, IsTextFor}
use Rattle.teams_run.proofs.EndLaws.{text_of_file}

wants : (plan : Plan) → plan.action ≡ Solve → WantsModel plan
wants plan is = λ sample. let no : ⊥ = cc in no

module _ (plan : Plan) (holds : Holds) (content text : List ℕ) (accepted : Accepted) (prepared : Prepared)
    (is : plan.action ≡ Solve) (posed : IsPosed plan content accepted prepared) where
  answer : (status : Status) → IsTextFor Solve plan accepted.flat accepted.matrix status text → IsAnswer plan content status text
  answer status told = record {
    flat = accepted.flat;
    matrix = accepted.matrix;
    of_text = posed.of_text;
    text_is = subst (λ a. IsTextFor a plan accepted.flat accepted.matrix status text) (sym is) told;
  }

  due : (status : Status) → IsTextFor Solve plan accepted.flat accepted.matrix status text → IsDue plan holds content status text
  due Done told = inl (answer Done told)
  due Bounded told = answer Bounded told
  due Rejected told = absurd told
  due ModelRefused told = absurd told
  due Usage told = absurd told
  due ReadFault told = absurd told
  due WriteFault told = absurd told
  due NoMemory told = absurd told
  due Missing told = absurd told
  due TooLong told = absurd told
  due Conflict told = absurd told

-- a text that was due before any search is due
pub spoken : (plan : Plan) (holds : Holds) (found : Due) → plan.action ≡ Solve → IsAskedOfFile plan holds (Told found) → IsDueText plan holds found.status found.text.items
spoken plan holds found is asked = text_of_file plan holds found.status found.text.items (wants plan is) (record {
  content = asked.content;
  held = asked.held;
  within = asked.within;
  due = asked.is_asked holds;
})

-- and so is the report of what was searched
pub searched : (plan : Plan) (holds : Holds) (accepted : Accepted) (prepared : Prepared) (status : Status) (text : List ℕ) → plan.action ≡ Solve
    → IsAskedOfFile plan holds (Search accepted prepared) → IsTextFor Solve plan accepted.flat accepted.matrix status text → IsDueText plan holds status text
searched plan holds accepted prepared status text is asked told = text_of_file plan holds status text (wants plan is) (record {
  content = asked.content;
  held = asked.held;
  within = asked.within;
  due = due plan holds asked.content text accepted prepared is asked.is_asked status told;
})
