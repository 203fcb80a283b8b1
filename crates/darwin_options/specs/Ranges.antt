-- The ranges of a call's options.
use Rattle.std.specs.Prelude.{◌≤◌, IfSome}
use Rattle.me_terms.specs.Validity.{IsLawful}
use Rattle.szs_print.specs.Printable.{IsName}
use Rattle.darwin_options.specs.declared.options.Options.{Options}
use Rattle.darwin_options.specs.declared.options.TheConstants.{MAX_WORKERS, MAX_SHARE, MAX_SEED}

-- Each field stands in its range.
pub record IsInRange (options : Options) : Type 0 where
  pub name : IsName options.name.items
  pub bounds : IsLawful options.bounds
  pub from : (1 ≤ options.from) × (options.from ≤ options.bounds.depth)
  pub workers : (1 ≤ options.workers) × (options.workers ≤ MAX_WORKERS)
  pub share : options.share ≤ MAX_SHARE
  pub make : IfSome options.make (λ seed. seed ≤ MAX_SEED)
