-- What a run of the program leaves behind, and why it ends as it does.
use Rattle.std.specs.Prelude.{◌≡◌, ◌≢◌, ◌⊎◌, ℕ, ◌<◌, ◌≤◌, List, [], length, take, Option, Some, None}
use Rattle.sig_edge.specs.Causes.{Rose}
use Rattle.sig_edge.specs.Shelf.{Holds, HoldsWhole, HoldsNone, HoldsLonger}
use Rattle.sig_edge.specs.Sink.{Appends}
use Rattle.seq_inst.specs.declared.outcome.Verdict.TheVariants.{Optimal, Bounded as BoundedVerdict}
use Rattle.teams_words.specs.declared.plan.Plan.{Plan}
use Rattle.teams_words.specs.declared.plan.Action.{Action}
use Rattle.teams_words.specs.declared.plan.Action.TheVariants.{Check, Sample, Reason}
use Rattle.teams_words.specs.Plans.{value_of}
use Rattle.teams_run.specs.declared.status.Status.{Status}
use Rattle.teams_run.specs.declared.status.Status.TheVariants.{Done, ModelRefused, Usage, Bounded, ReadFault, WriteFault, NoMemory, Rejected, Missing, TooLong, Conflict}
use Rattle.teams_run.specs.Samples.{IsSummary}
use Rattle.teams_run.specs.Accepted.{refusals}
use Rattle.teams_run.specs.Texts.{IsDue, IsFit, cert_name, cert_limit, log_name, log_limit}

-- the limit of a model text in bytes
abbrev pub model_limit : ℕ
model_limit = 1048576

-- the text that is due with this status for the file that is held under the plan's MODEL
pub record IsDueOfFile (plan : Plan) (holds : Holds) (status : Status) (text : List ℕ) : Type 0 where
  pub content : List ℕ
  pub held : HoldsWhole holds plan.model content
  pub within : length content ≤ model_limit
  pub due : IsDue plan holds content status text

-- the text that is due with this status for the chain of as many parts as MODEL says
abbrev pub IsDueOfChain : Plan → Status → List ℕ → Type 0
IsDueOfChain plan Done text = IsSummary (value_of plan.model) plan.groups Optimal text
IsDueOfChain plan Bounded text = IsSummary (value_of plan.model) plan.groups BoundedVerdict text
IsDueOfChain plan other text = ⊥

-- the text that is due with this status
abbrev pub IsDueFor : Action → Plan → Holds → Status → List ℕ → Type 0
IsDueFor Sample plan holds status text = IsDueOfChain plan status text
IsDueFor other plan holds status text = IsDueOfFile plan holds status text

abbrev pub IsDueText : Plan → Holds → Status → List ℕ → Type 0
IsDueText plan holds status text = IsDueFor plan.action plan holds status text

-- the plan is to check a certificate, and the model that is held is accepted, so that the certificate is fetched
pub record WantsCert (plan : Plan) (holds : Holds) : Type 0 where
  pub action : plan.action ≡ Check
  pub content : List ℕ
  pub held : HoldsWhole holds plan.model content
  pub within : length content ≤ model_limit
  pub fit : IsFit plan content

-- the plan is to reason over a log, and the model that is held is accepted, so that the log is fetched
pub record WantsLog (plan : Plan) (holds : Holds) : Type 0 where
  pub action : plan.action ≡ Reason
  pub content : List ℕ
  pub held : HoldsWhole holds plan.model content
  pub within : length content ≤ model_limit
  pub accepted : refusals content plan.mode ≡ []

-- `sample` alone fetches no model
abbrev pub WantsModel : Plan → Type 0
WantsModel plan = plan.action ≢ Sample

-- where the shelf tells, the model's file isn't held, or a certificate's or a log's that is fetched
abbrev pub LacksFile : Plan → Holds → Type 0
LacksFile plan holds = HoldsNone holds plan.model ⊎ ((WantsCert plan holds × HoldsNone holds (cert_name plan)) ⊎ (WantsLog plan holds × HoldsNone holds (log_name plan)))

-- where the shelf tells, a file that is fetched has more bytes than its limit
abbrev pub HasLongFile : Plan → Holds → Type 0
HasLongFile plan holds = HoldsLonger holds plan.model model_limit ⊎ ((WantsCert plan holds × HoldsLonger holds (cert_name plan) cert_limit) ⊎ (WantsLog plan holds × HoldsLonger holds (log_name plan) log_limit))

-- what can be told of a shelf and a sink at one moment: what the shelf holds, how often it missed a file and how often it failed;
-- what was written into the sink, and how often it failed
pub record Moment : Type 0 where
  pub holds : Holds
  pub misses : ℕ
  pub shelf_faults : ℕ
  pub wrote : Option (List ℕ)
  pub sink_faults : ℕ

abbrev pub moment : Holds → ℕ → ℕ → Option (List ℕ) → ℕ → Moment
moment holds misses shelf_faults wrote sink_faults = record { holds = holds; misses = misses; shelf_faults = shelf_faults; wrote = wrote; sink_faults = sink_faults }

-- the whole text that is due with this status was written
pub record Writes (plan : Plan) (before after : Moment) (status : Status) : Type 0 where
  pub text : List ℕ
  pub due : IsDueText plan before.holds status text
  pub written : Appends before.wrote after.wrote text

-- the sink failed, and of a text that is due with some status it took a proper part, from its front on
pub record WritesPart (plan : Plan) (before after : Moment) : Type 0 where
  pub status : Status
  pub text : List ℕ
  pub due : IsDueText plan before.holds status text
  pub sent : ℕ
  pub short : sent < length text
  pub written : Appends before.wrote after.wrote (take sent text)
  pub failed : Rose before.sink_faults after.sink_faults

-- nothing was written
abbrev pub IsSilent : Moment → Moment → Type 0
IsSilent before after = after.wrote ≡ before.wrote

-- how a run of a plan may end, with what it leaves behind and its cause: the text that is due was written whole, or a part of it
-- where the sink failed, or nothing, where a file was missed, the shelf failed, a file is too long, or memory was refused
abbrev pub EndsAs : Plan → Moment → Moment → Status → Type 0
EndsAs plan before after Done = Writes plan before after Done
EndsAs plan before after Bounded = Writes plan before after Bounded
EndsAs plan before after Rejected = Writes plan before after Rejected
EndsAs plan before after ModelRefused = Writes plan before after ModelRefused
EndsAs plan before after Conflict = Writes plan before after Conflict
EndsAs plan before after WriteFault = WritesPart plan before after
EndsAs plan before after Missing = IsSilent before after × WantsModel plan × Rose before.misses after.misses × LacksFile plan before.holds
EndsAs plan before after ReadFault = IsSilent before after × WantsModel plan × Rose before.shelf_faults after.shelf_faults
EndsAs plan before after TooLong = IsSilent before after × WantsModel plan × HasLongFile plan before.holds
EndsAs plan before after NoMemory = IsSilent before after
EndsAs plan before after Usage = ⊥

-- how a run of words may end: as their plan says, and where they give none, with Usage, or because memory was refused
abbrev pub EndsFor : Option Plan → Moment → Moment → Status → Type 0
EndsFor (Some plan) before after status = EndsAs plan before after status
EndsFor None before after Usage = IsSilent before after
EndsFor None before after NoMemory = IsSilent before after
EndsFor None before after other = ⊥
