-- The text of an answer is one, whatever the number of workers and the share.
use Rattle.std.proofs.Common.{◌≡◌, ◌≤◌, ℕ, List, ◌++◌, Option, Some, None, sym, ap, subst, ◌∙◌, append-nil, arith}
use Rattle.std.proofs.lemmas.Option.{same_Some}
use Rattle.std.specs.Prelude.{IsSome}
use Rattle.std.specs.Io.KnownBytes.{Consumes, IsAtEnd, Appends}
use Rattle.std.specs.Global.{Global}
use Rattle.std.specs.declared.string.String.{String}
use Rattle.me_terms.specs.Values.{ProblemValue}
use Rattle.me_terms.specs.AnswerViews.{answer_value}
use Rattle.me_terms.specs.Deepening.{HasAnswerFrom}
use Rattle.me_terms.specs.declared.answer.Answer.{Answer}
use Rattle.me_terms.specs.declared.bounds.Bounds.{Bounds}
use Rattle.me_terms.specs.declared.bounds.TheConstants.{MAX_DEPTH, MAX_WEIGHT, MAX_ENTRIES}
use Rattle.me_laws.proofs.Deepened.{deepened_unique}
use Rattle.tptp_cnf.specs.Files.{IsFile}
use Rattle.tptp_cnf.proofs.Causal.{one_problem}
use Rattle.darwin_options.specs.Settings.{Depth, Weight, Literals, Word, value_of, IsNumberOr}
use Rattle.darwin_options.specs.AcceptedWords.{Asks}
use Rattle.darwin_options.specs.declared.options.Options.{Options}
use Rattle.darwin_options.specs.declared.options.TheConstants.{DEFAULT_DEPTH, DEFAULT_WEIGHT, DEFAULT_ENTRIES}
use Rattle.text_laws.specs.AskedOptions.{AskAlike}
use Rattle.text_laws.proofs.Texts.{answer_text_once, summary_once}
use Rattle.made_laws.specs.MadeProblems.{AreWide}
use Rattle.made_laws.proofs.Made.{made_once}
use Rattle.darwin_cli.specs.declared.answer.TheConstants.{MADE_PREDICATES, MADE_CLAUSES}
use Rattle.darwin_cli.specs.Outcome.{IsTextFor, IsAskedFor, IsAnswered}
use Rattle.darwin_cli.specs.Calls.{SetNoBound, AskForTheSame, GiveAlike, IsCallAnswered, WroteOneText}

-- ---- the default bounds

default_is : (low high default n : ℕ) (value : Option Word) → value ≡ None → IsNumberOr low high default value n → n ≡ default
default_is low high default n None e is = is
default_is low high default n (Some word) e is = absurd cc

-- words that set no bound ask for wide bounds
defaults_wide : (words : List (String Global)) (options : Options) → SetNoBound words → Asks words options → AreWide MADE_PREDICATES options.bounds
defaults_wide words options unset asks =
    let none = unset asks.0 asks.1 in
    let bounds = asks.2.bounds in
    let depth = default_is 1 MAX_DEPTH DEFAULT_DEPTH options.bounds.depth (value_of Depth asks.0) none.0 bounds.depth in
    let weight = default_is 1 MAX_WEIGHT DEFAULT_WEIGHT options.bounds.weight (value_of Weight asks.0) none.1 bounds.weight in
    let literals = default_is 1 MAX_ENTRIES DEFAULT_ENTRIES options.bounds.literals (value_of Literals asks.0) none.2 bounds.literals in
    record {
      depth = subst (λ (n : ℕ). 1 ≤ n) (sym depth) deep;
      weight = subst (λ (n : ℕ). 2 ≤ n) (sym weight) heavy;
      literals = subst (λ (n : ℕ). 181 ≤ n) (sym literals) many;
    }
  where
    deep : 1 ≤ 6
    deep = omega arith

    heavy : 2 ≤ 1000
    heavy = omega arith

    many : 181 ≤ 2000
    many = omega arith

-- ---- what a source gave

-- a source that told its bytes and has none left gave them all
all_given : (bytes all : List ℕ) (told told' : Option (List ℕ)) → told ≡ Some bytes → Consumes told told' all → IsAtEnd told' → bytes ≡ all
all_given bytes all None told' is gone end = apart is
  where
    apart : None ≡ Some bytes → bytes ≡ all
    apart e = absurd cc
all_given bytes all (Some xs) None is gone end = absurd gone
all_given bytes all (Some xs) (Some rest) is gone end =
    same_Some bytes xs (sym is) ∙ gone ∙ ap (λ (ys : List ℕ). all ++ ys) end ∙ append-nil all

-- ---- the text of an answer

text_once : (make : Option ℕ) (name : List ℕ) (problem : ProblemValue) (answer other : Answer) (text same : List ℕ) → answer_value answer ≡ answer_value other
    → IsTextFor make name problem answer text → IsTextFor make name problem other same → text ≡ same
text_once None name problem answer other text same e h g = answer_text_once name problem answer other text same e h g
text_once (Some seed) name problem answer other text same e h g = summary_once name problem answer other text same e h g

module _ {S : Type 0} (left : S → Option (List ℕ)) (given : S → ℕ) (ended : S → Type 0) (faults : S → ℕ) where
  problem_once : (make : Option ℕ) (options other : Options) (old new old' new' : S) (problem same : ProblemValue) → GiveAlike make (left old) (left old')
      → IsAskedFor left given ended faults options old new make problem → IsAskedFor left given ended faults other old' new' make same → problem ≡ same
  problem_once (Some seed) options other old new old' new' problem same alike h g = made_once seed MADE_PREDICATES MADE_CLAUSES problem same h.1 g.1
  problem_once None options other old new old' new' problem same alike h g =
      let here = all_given alike.0 h.0 (left old) (left new) alike.1 h.1.gone h.1.none_left in
      let there = all_given alike.0 g.0 (left old') (left new') alike.2 g.1.gone g.1.none_left in
      one_problem g.0 problem same (subst (λ (bytes : List ℕ). IsFile bytes problem) (sym here ∙ there) h.2) g.2

  -- options that ask for the same answer get one text
  answered_alike : (options other : Options) (old new old' new' : S) (text same : List ℕ) → AskAlike options other → GiveAlike options.make (left old) (left old')
      → IsAnswered left given ended faults options old new text → IsAnswered left given ended faults other old' new' same → text ≡ same
  answered_alike options other old new old' new' text same alike give h g =
      let asked = subst (λ (make : Option ℕ). IsAskedFor left given ended faults other old' new' make g.problem) (sym alike.make) g.asked in
      let problem = problem_once options.make options other old new old' new' h.problem g.problem give h.asked asked in
      let sure = subst (λ (b : Bounds). HasAnswerFrom g.problem b other.from (answer_value g.answer)) (sym alike.bounds) g.sure.is_answer in
      let from = subst (λ (n : ℕ). HasAnswerFrom g.problem options.bounds n (answer_value g.answer)) (sym alike.from) sure in
      let mine = subst (λ (p : ProblemValue). HasAnswerFrom p options.bounds options.from (answer_value h.answer)) problem h.sure.is_answer in
      let value = deepened_unique g.problem options.bounds options.from (answer_value h.answer) (answer_value g.answer) mine from in
      let text_is = subst (λ (p : ProblemValue). IsTextFor options.make options.name.items p h.answer text) problem h.text_is in
      let made = subst (λ (make : Option ℕ). IsTextFor make other.name.items g.problem g.answer same) (sym alike.make) g.text_is in
      let named = subst (λ (name : List ℕ). IsTextFor options.make name g.problem g.answer same) (sym alike.name) made in
      text_once options.make options.name.items g.problem h.answer g.answer text same value text_is named

  -- what was written of the answer under the options that the words ask for
  pub wrote_one_text : (words : List (String Global)) (options : Options) (old new : S) (held held' : Option (List ℕ)) (text : List ℕ) → Asks words options → IsAnswered left given ended faults options old new text → Appends held held' text
      → WroteOneText left given ended faults words old new held held'
  wrote_one_text words options old new held held' text asks is written = record {
    text = text;
    written = written;
    answered = (options, asks, is);
    only = λ others old' new' same alike give answer. answered_alike options answer.0 old new old' new' text same (alike options answer.0 asks answer.1) (give options asks) is answer.2;
    decided = λ unset some. is.decided some (defaults_wide words options unset asks);
  }
