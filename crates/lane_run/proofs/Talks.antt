-- The talk of a transaction that is begun.
use Rattle.std.proofs.Common.{◌≡◌, ap, ◌∙◌}
use Rattle.ep_rules.specs.EntryPoint.Configuration.{Config}
use Rattle.ep_rules.specs.EntryPoint.PreProcessing.{prepared}
use Rattle.entry_session.specs.Perfect.{talk_of}
use Rattle.pre_processing.specs.Preparation.{Preparation}
use Rattle.scenario.specs.Jobs.{talk_in}
use Rattle.scenario.specs.Scenario.{Work}
use Rattle.lane_run.specs.Works.{preparation}

same_preparation : (settings : Config) (w : Work) (p : Preparation) → p.list ≡ prepared settings w.txn_type w.amount → p.txn_type ≡ w.txn_type
    → p.amount ≡ w.amount
    → p ≡ preparation settings w
same_preparation settings w p l t a =
    ap (λ n. record { txn_type = n; amount = p.amount; list = p.list }) t
    ∙ ap (λ n. record { txn_type = w.txn_type; amount = n; list = p.list }) a
    ∙ ap (λ xs. record { txn_type = w.txn_type; amount = w.amount; list = xs }) l

-- The talk that is begun is the transaction's.
pub same_talk : (settings : Config) (w v : Work) (p : Preparation) → w ≡ v
    → p.list ≡ prepared settings w.txn_type w.amount → p.txn_type ≡ w.txn_type → p.amount ≡ w.amount → talk_of p w.scripts ≡ talk_in settings v
same_talk settings w v p e l t a = ap (λ q. talk_of q w.scripts) (same_preparation settings w p l t a) ∙ ap (λ (x : Work). talk_in settings x) e
