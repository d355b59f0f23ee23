use Rattle.std.proofs.Common.{rules}
use Rattle.serde_json.specs.Errors.{IsMemory}
use Rattle.kn_config.proofs.JsonTexts.{json_found, json_refused}
use Rattle.kn_config.proofs.json.read_json.Goals as goal

pub returns-in-Ok-clause-ok : goal.returns-in-Ok-clause-ok
returns-in-Ok-clause-ok c = json_found c.args.text.now _ c.in-Ok.ensures.ok.0 c.in-Ok.ensures.ok.1

pub returns-else-is_memory-clause-not_json : goal.returns-else-is_memory-clause-not_json
returns-else-is_memory-clause-not_json c _ =
    let other : ¬ (IsMemory c.in-Err.fault) = search rules in
    json_refused c.args.text.now (c.in-Err.ensures.err other)
