-- What is promised of one lane of a run (this project's own).
use Rattle.std.specs.Prelude.{◌≡◌, ℕ, ◌+◌, Bool, false, All, List, [], ◌∷◌, ◌++◌}
use Rattle.ep_base.specs.Air.Fates.{AllPass}
use Rattle.ep_rules.specs.EntryPoint.Event.{Event as EventData}
use Rattle.ep_claim.specs.Text.WrittenText.{lane_text}
use Rattle.ep_claim.specs.Promise.Transaction.{Cards, IsReady, events_at, log_at, perfect_at, perfect_said, TransactionPromise}
use Rattle.ep_claim.specs.Lanes.LaneText.{Job}
use Rattle.ep_claim.specs.Lanes.Telling.{whole_text, AreTold}

-- Each of a lane's transactions is over a new field of its own cards (this project's own).
abbrev pub AreReady : ℕ → List Job → List Cards → Type 0
AreReady fsdi [] [] = Unit {0}
AreReady fsdi [] (c ∷ cs) = ⊥
AreReady fsdi (j ∷ js) [] = ⊥
AreReady fsdi (j ∷ js) (c ∷ cs) = IsReady fsdi j c × AreReady fsdi js cs

-- Each of a lane's transactions has the promise over its own cards, with its own count of exchanges (this project's own).
abbrev pub AreKept : (fsdi : ℕ) → List Job → List Cards → (counts : List ℕ) → Type 0
AreKept fsdi [] cards counts = (cards ≡ []) × (counts ≡ [])
AreKept fsdi (j ∷ js) [] counts = ⊥
AreKept fsdi (j ∷ js) (c ∷ cs) [] = ⊥
AreKept fsdi (j ∷ js) (c ∷ cs) (n ∷ ns) = TransactionPromise fsdi j c n × AreKept fsdi js cs ns

-- The lines of a lane's transactions, each with so many exchanges: what its opening and each of its exchanges tells, and its log. The lines of an
-- exchange begin with its trace line, where a trace is wanted; nothing else differs. The first transaction has this number (this project's own).
abbrev pub lane_lines : (traced : Bool) → (fsdi lane txn : ℕ) → List Job → (counts : List ℕ) → List ℕ
lane_lines traced fsdi lane txn [] counts = []
lane_lines traced fsdi lane txn (j ∷ js) [] = []
lane_lines traced fsdi lane txn (j ∷ js) (n ∷ ns) = whole_text traced fsdi lane txn j n ++ lane_lines traced fsdi lane (txn + 1) js ns

-- The events and the log of each transaction after so many exchanges over its own field (this project's own).
abbrev pub ends_at : (fsdi : ℕ) → List Job → (counts : List ℕ) → List (List EventData × List (ℕ × List ℕ))
ends_at fsdi [] counts = []
ends_at fsdi (j ∷ js) [] = []
ends_at fsdi (j ∷ js) (n ∷ ns) = (events_at fsdi j n, log_at fsdi j n) ∷ ends_at fsdi js ns

-- The events and the commands of each transaction's perfect run over its own cards, for the ends that its rounds had (this project's own).
abbrev pub perfect_ends : (fsdi : ℕ) → List Job → List Cards → (counts : List ℕ) → List (List EventData × List (ℕ × List ℕ))
perfect_ends fsdi [] cards counts = []
perfect_ends fsdi (j ∷ js) [] counts = []
perfect_ends fsdi (j ∷ js) (c ∷ cs) [] = []
perfect_ends fsdi (j ∷ js) (c ∷ cs) (n ∷ ns) =
    (perfect_said j (perfect_at fsdi j c n []), (perfect_at fsdi j c n []).commands) ∷ perfect_ends fsdi js cs ns

-- Every frame of these transactions passes (this project's own).
abbrev pub EveryFramePasses : List Job → Type 0
EveryFramePasses jobs = All (λ (j : Job). AllPass j.field.air.fates) jobs

-- What is promised of a lane with these transactions that wrote this. Each of its transactions has the promise; its text is their lines; without the
-- trace lines these are the report of the events and logs; and where every frame passes, that of the perfect runs (this project's own).
pub record LanePromise (traced : Bool) (fsdi lane : ℕ) (jobs : List Job) (cards : List Cards) (text : List ℕ) : Type 0 where
  pub counts : List ℕ
  pub transactions : AreKept fsdi jobs cards counts
  pub lines : text ≡ lane_lines traced fsdi lane 1 jobs counts
  pub untraced : lane_lines false fsdi lane 1 jobs counts ≡ lane_text lane (ends_at fsdi jobs counts)
  pub lossless : EveryFramePasses jobs → lane_lines false fsdi lane 1 jobs counts ≡ lane_text lane (perfect_ends fsdi jobs cards counts)

-- What tells such transactions, each of them over, has the promise (this project's own).
abbrev pub ToldKeep : Type 0
ToldKeep =
    (traced : Bool) (fsdi lane : ℕ) (jobs : List Job) (cards : List Cards) (text : List ℕ) → AreReady fsdi jobs cards →
    AreTold traced fsdi lane 1 jobs text → LanePromise traced fsdi lane jobs cards text

-- Two texts with one lane's promise are the same (this project's own).
abbrev pub OneText : Type 0
OneText =
    (traced : Bool) (fsdi lane : ℕ) (jobs : List Job) (cards : List Cards) (s t : List ℕ) →
    LanePromise traced fsdi lane jobs cards s → LanePromise traced fsdi lane jobs cards t → s ≡ t
