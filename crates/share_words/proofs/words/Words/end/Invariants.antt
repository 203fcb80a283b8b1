use Rattle.share_words.proofs.words.Words.end.Given as goal

abbrev pub ghosts-end_as : goal.ghosts-end_as
ghosts-end_as a = record { share = a.self.now.share; path = a.path }
