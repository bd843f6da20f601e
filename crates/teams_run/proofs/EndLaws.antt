-- How a run ends.
use Rattle.std.specs.Prelude.{⊤}
use Rattle.std.proofs.Common.{◌≡◌, ℕ, List, Option, Some, None, refl, sym, subst}
use Rattle.sig_edge.specs.Shelf.{Holds}
use Rattle.sig_edge.specs.Sink.{Appends}
use Rattle.teams_words.specs.declared.plan.Plan.{Plan}
use Rattle.teams_words.specs.declared.plan.Action.{Action}
use Rattle.teams_words.specs.declared.plan.Action.TheVariants.{Solve, Check, Matrix, Figures, Sample, Reason}
use Rattle.teams_run.specs.declared.status.Status.{Status}
use Rattle.teams_run.specs.declared.status.Status.TheVariants.{Done, ModelRefused, Usage, Bounded, ReadFault, WriteFault, NoMemory, Rejected, Missing, TooLong, Conflict}
use Rattle.teams_run.specs.Texts.{IsDue}
use Rattle.teams_run.specs.Runs.{Moment, EndsAs, EndsFor, IsDueFor, IsDueOfChain, IsDueOfFile, IsDueText, IsSilent, WantsModel}

-- the statuses that come with a text
abbrev HasText : Status → Type 0
HasText Done = ⊤
HasText Bounded = ⊤
HasText Rejected = ⊤
HasText ModelRefused = ⊤
HasText Conflict = ⊤
HasText other = ⊥

of_file : (plan : Plan) (holds : Holds) (content text : List ℕ) (status : Status) → IsDue plan holds content status text → HasText status
of_file plan holds content text Done d = tt
of_file plan holds content text Bounded d = tt
of_file plan holds content text Rejected d = tt
of_file plan holds content text ModelRefused d = tt
of_file plan holds content text Conflict d = tt
of_file plan holds content text Usage d = absurd d
of_file plan holds content text ReadFault d = absurd d
of_file plan holds content text WriteFault d = absurd d
of_file plan holds content text NoMemory d = absurd d
of_file plan holds content text Missing d = absurd d
of_file plan holds content text TooLong d = absurd d

of_chain : (plan : Plan) (text : List ℕ) (status : Status) → IsDueOfChain plan status text → HasText status
of_chain plan text Done d = tt
of_chain plan text Bounded d = tt
of_chain plan text Rejected d = absurd d
of_chain plan text ModelRefused d = absurd d
of_chain plan text Conflict d = absurd d
of_chain plan text Usage d = absurd d
of_chain plan text ReadFault d = absurd d
of_chain plan text WriteFault d = absurd d
of_chain plan text NoMemory d = absurd d
of_chain plan text Missing d = absurd d
of_chain plan text TooLong d = absurd d

has_text : (action : Action) (plan : Plan) (holds : Holds) (text : List ℕ) (status : Status) → IsDueFor action plan holds status text → HasText status
has_text Sample plan holds text status d = of_chain plan text status d
has_text Solve plan holds text status d = of_file plan holds d.content text status d.due
has_text Check plan holds text status d = of_file plan holds d.content text status d.due
has_text Matrix plan holds text status d = of_file plan holds d.content text status d.due
has_text Figures plan holds text status d = of_file plan holds d.content text status d.due
has_text Reason plan holds text status d = of_file plan holds d.content text status d.due

-- a text that is due was written whole
pub writes : (plan : Plan) (before after : Moment) (status : Status) (text : List ℕ) → IsDueText plan before.holds status text → Appends before.wrote after.wrote text → EndsAs plan before after status
writes plan before after Done text due written = record { text = text; due = due; written = written }
writes plan before after Bounded text due written = record { text = text; due = due; written = written }
writes plan before after Rejected text due written = record { text = text; due = due; written = written }
writes plan before after ModelRefused text due written = record { text = text; due = due; written = written }
writes plan before after Conflict text due written = record { text = text; due = due; written = written }
writes plan before after Usage text due written = absurd (has_text plan.action plan before.holds text Usage due)
writes plan before after ReadFault text due written = absurd (has_text plan.action plan before.holds text ReadFault due)
writes plan before after WriteFault text due written = absurd (has_text plan.action plan before.holds text WriteFault due)
writes plan before after NoMemory text due written = absurd (has_text plan.action plan before.holds text NoMemory due)
writes plan before after Missing text due written = absurd (has_text plan.action plan before.holds text Missing due)
writes plan before after TooLong text due written = absurd (has_text plan.action plan before.holds text TooLong due)

-- memory may be refused whatever the words are
pub no_memory : (given : Option Plan) (before after : Moment) → IsSilent before after → EndsFor given before after NoMemory
no_memory None before after silent = silent
no_memory (Some plan) before after silent = silent

pub usage : (given : Option Plan) (before after : Moment) → given ≡ None → IsSilent before after → EndsFor given before after Usage
usage given before after none silent = subst (λ o. EndsFor o before after Usage) (sym none) silent

pub as_plan : (given : Option Plan) (plan : Plan) (before after : Moment) (status : Status) → given ≡ Some plan → EndsAs plan before after status → EndsFor given before after status
as_plan given plan before after status is ends = subst (λ o. EndsFor o before after status) (sym is) ends

-- what is due for a file, and for a chain, is what is due for the plan
pub text_of_file : (plan : Plan) (holds : Holds) (status : Status) (text : List ℕ) → WantsModel plan → IsDueOfFile plan holds status text → IsDueText plan holds status text
text_of_file plan holds status text wanted due = go plan.action wanted
  where
    go : (action : Action) → (action ≡ Sample → ⊥) → IsDueFor action plan holds status text
    go Solve not_sample = due
    go Check not_sample = due
    go Matrix not_sample = due
    go Figures not_sample = due
    go Reason not_sample = due
    go Sample not_sample = absurd (not_sample refl)

pub text_of_chain : (plan : Plan) (holds : Holds) (status : Status) (text : List ℕ) → plan.action ≡ Sample → IsDueOfChain plan status text → IsDueText plan holds status text
text_of_chain plan holds status text is due = subst (λ action. IsDueFor action plan holds status text) (sym is) due
