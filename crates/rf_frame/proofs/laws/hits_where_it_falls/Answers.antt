use Rattle.rf_frame.proofs.Places.{hits-FallsOn}
use Rattle.rf_frame.proofs.laws.hits_where_it_falls.Goals as goal

pub returns : goal.returns
returns c = hits-FallsOn
