use Rattle.write_heads.proofs.Search.{stores}
use Rattle.write_heads.proofs.put_invoke.Goals as goal

pub returns-then-f-eq-CHARGING_REQUEST : goal.returns-then-f-eq-CHARGING_REQUEST
returns-then-f-eq-CHARGING_REQUEST c = search stores

pub returns : goal.returns
returns c = search stores
