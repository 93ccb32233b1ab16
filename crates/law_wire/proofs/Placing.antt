-- What both ends send at each place of an open command.
use Rattle.std.proofs.Common.{ℕ, ◌≤◌, Bool, List, refl, sym, subst, ⊎_elim, arith}
use Rattle.ep_base.specs.Link.Block.{ReadBlock, frame_length, other}
use Rattle.ep_base.specs.Link.CardEnd.{CommandRules}
use Rattle.ep_base.specs.Link.OneLink.{Frames}
use Rattle.ep_base.specs.Link.ReaderEnd.{question}
use Rattle.law_link.specs.Once.{IsImage, AreFrames}
use Rattle.law_link.proofs.Cutting.{cut_fits}
use Rattle.law_link.proofs.Exchange.{Place, Before, Between, Working, Replied, Asking, Given, after, reply, phase_at, answer_at, Fine, Fits, Answers}
use Rattle.law_wire.proofs.Reading.{Sent}

module _ (frames : Frames) (image : CommandRules) (before : List (List ℕ)) (command : List ℕ) (sized : AreFrames frames) (is : IsImage image)
    (wtxm_least : 1 ≤ (reply frames image before command).wtxm) (wtxm_most : (reply frames image before command).wtxm ≤ 59) where
  -- the reader's block
  pub asked_sent : (m : Bool) (place : Place) (s : List ReadBlock) → Fits frames image before command m place s → Sent (question (other m) (phase_at frames image before command place) s)
  asked_sent m (Before last sent part left) s f = ⊎_elim (λ e. subst Sent (sym e) tt) (λ e. subst Sent (sym e) tt) f.1
  asked_sent m (Between sent part next left) s f = subst Sent (sym f) tt
  asked_sent m (Working part wtx) s f = ⊎_elim (λ e. subst Sent (sym e.0) tt) (λ e. subst Sent (sym e.0) (refl, wtxm_least, wtxm_most)) f
  asked_sent m (Replied part) s f = subst Sent (sym f) tt
  asked_sent m (Asking last got next others) s f = subst Sent (sym f) tt
  asked_sent m (Given got part others) s f = subst Sent (sym f) tt

  -- the card's answer
  pub answer_sent : (m : Bool) (place : Place) (s : List ReadBlock) → Fine frames image before command place → Answers frames image before command m place s
      → Sent (answer_at frames image before command m place) × (frame_length (answer_at frames image before command m place) ≤ frames.reader)
  answer_sent m (Before last sent part left) s fine a = (tt, omega (arith, sized.reader))
  answer_sent m (Between sent part next left) s fine a = (tt, omega (arith, sized.reader))
  answer_sent m (Working part wtx) s fine a = ((refl, wtxm_least, wtxm_most), omega (arith, sized.reader))
  answer_sent m (Replied part) s fine a =
      (tt, (cut_fits frames.reader (reply frames image before command).response sized.reader (omega (arith, (is.responses (after frames image before command)).0))).0.1)
  answer_sent m (Asking last got next others) s fine a = absurd a
  answer_sent m (Given got part others) s fine a = (tt, fine.1.0.1)
