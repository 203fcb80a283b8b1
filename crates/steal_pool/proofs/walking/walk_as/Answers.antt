use Rattle.std.proofs.Common.{◌≡◌, ◌≤◌, ℕ, length, sym, subst, ap, ◌∙◌}
use Rattle.branch_core.specs.Paths.{Turns, ProperlyBegins}
use Rattle.share_words.specs.Seats.{WordsValue}
use Rattle.steal_pool.proofs.walking.walk_as.Goals as goal

pub walk-record-requires-clause-job : goal.walk-record-requires-clause-job
walk-record-requires-clause-job g c =
    let path = c.args.path in
    let jobs = c.requires.jobs in
    let job = jobs.jobs path c.args.work c.requires.task in
    let J : Turns → Type 0 = λ t. g.E.Explore.is_job c.args.explorer.now t c.args.work in
    subst J (sym job.1) job.0

pub walk-record-requires-clause-hook : goal.walk-record-requires-clause-hook
walk-record-requires-clause-hook g c =
    let jobs = c.requires.jobs in
    let job = jobs.jobs c.args.path c.args.work c.requires.task in
    let share : g.S.WalkStart.words.share ≡ g.E.Explore.share c.args.explorer.now = ap (λ (w : WordsValue). w.share) c.requires.start.2 ∙ sym c.requires.share.0 in
    record {
      takes = λ gift given may is named.
          let P : Turns → Type 0 = λ t. ProperlyBegins t gift in
          let Q : ℕ → Type 0 = λ n. length gift ≤ n in
          (record { extends = subst P (job.1 ∙ sym c.requires.start.1) may.below; to_right = may.right; short = subst Q (sym share) may.few }, jobs.tasks gift given (is, named) may.few);
    }
