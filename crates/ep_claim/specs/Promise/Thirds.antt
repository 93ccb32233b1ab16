-- When a link fails: exactly with the third bad exchange of an open command (this project's own).
use Rattle.std.specs.Prelude.{◌≡◌, ℕ, suc, ◌≤◌, Some}
use Rattle.ep_base.specs.Link.Block.{Bad, is_bad, count}
use Rattle.ep_base.specs.Air.Heard.{Ask}
use Rattle.ep_base.specs.Link.LinkFrames.{heard_block}
use Rattle.ep_base.specs.Poll.Radio.{OpenLink}
use Rattle.ep_base.specs.Link.ReaderEnd.{asked}
use Rattle.ep_rules.specs.EntryPoint.TransportRun.{AtLink}
use Rattle.ep_claim.specs.Lanes.Exchanges.{field_answers, or_silence}
use Rattle.ep_claim.specs.Lanes.Standing.{Carries, Stopped, asked_by, asks_block}
use Rattle.ep_claim.specs.Lanes.LaneText.{Job}
use Rattle.ep_claim.specs.Lanes.Telling.{job_after}

-- After n exchanges over its own field a transaction has an exchange left: in the next one this is asked (this project's own).
abbrev pub AsksAt : (fsdi : ℕ) → Job → (n : ℕ) → Type 0
AsksAt fsdi j n = (ask : Ask) × (asked_by fsdi (job_after fsdi j n).standing.doing ≡ Some ask)

-- After n exchanges a transaction has an open command, of whose exchanges exactly two were bad since the reader's last toggle, or since its link
-- was opened; and its next exchange is bad. Exchanges of poll rounds and of S(DESELECT) aren't among them (this project's profile).
pub record IsThirdBad (fsdi : ℕ) (j : Job) (n : ℕ) : Type 0 where
  pub link : OpenLink
  pub carries : (job_after fsdi j n).standing.doing ≡ Carries link
  pub two : count is_bad link.reader.since ≡ 2
  pub bad : heard_block link.set.kind link.set.frames.reader
      (or_silence (field_answers (asks_block link.set (asked link.reader)) (job_after fsdi j n).field).0) ≡ Bad

-- With such an exchange the transaction ends, by the failure of its link (this project's profile).
abbrev pub FailsAtThird : ℕ → Job → Type 0
FailsAtThird fsdi j = (n : ℕ) → IsThirdBad fsdi j n → (job_after fsdi j (suc n)).standing.doing ≡ Stopped AtLink

-- And with such an exchange alone: the one with which a link fails is the third bad one of this link's open command (this project's profile).
abbrev pub FailsOnlyAtThird : ℕ → Job → Type 0
FailsOnlyAtThird fsdi j =
    (n : ℕ) → AsksAt fsdi j n → (job_after fsdi j (suc n)).standing.doing ≡ Stopped AtLink → IsThirdBad fsdi j n

-- While a command is open, no more than two of its exchanges were bad since the reader's last toggle, or since its link was opened (this project's
-- profile).
abbrev pub TwoBadAtMost : ℕ → Job → Type 0
TwoBadAtMost fsdi j =
    (n : ℕ) (link : OpenLink) → (job_after fsdi j n).standing.doing ≡ Carries link → count is_bad link.reader.since ≤ 2

-- So a link fails exactly with the third bad exchange, in every transaction over every field (this project's own).
pub record FailsExactlyAtThird (fsdi : ℕ) (j : Job) : Type 0 where
  pub third : FailsAtThird fsdi j
  pub only_third : FailsOnlyAtThird fsdi j
  pub at_most_two : TwoBadAtMost fsdi j
