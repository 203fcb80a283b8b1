use Rattle.darwin_options.proofs.Parsed.{found_in, same_in, refused_in, memory_is_no_usage}
use Rattle.darwin_options.proofs.command.parsed.Goals as goal

pub returns-in_default-clause-usage : goal.returns-in_default-clause-usage
returns-in_default-clause-usage c usage = absurd (memory_is_no_usage usage)

pub returns-in-Ok-try_get_matches_from-clause-found : goal.returns-in-Ok-try_get_matches_from-clause-found
returns-in-Ok-try_get_matches_from-clause-found c =
    found_in _ c.in-Ok.ensures c.args.words.now c.requires c.in-Ok-try_get_matches_from.matches c.in-Ok-try_get_matches_from.ensures.matches c.in-Ok-try_get_matches_from.ensures.kinds

pub returns-in-Ok-try_get_matches_from-clause-same : goal.returns-in-Ok-try_get_matches_from-clause-same
returns-in-Ok-try_get_matches_from-clause-same c =
    same_in _ c.in-Ok.ensures c.args.words.now c.in-Ok-try_get_matches_from.matches c.in-Ok-try_get_matches_from.ensures.matches

pub returns-in-Err-clause-usage : goal.returns-in-Err-clause-usage
returns-in-Err-clause-usage c usage = refused_in _ c.in-Ok.ensures c.args.words.now c.in-Err.error c.in-Err.ensures.kinds (c.reason.ensures usage)
