use Rattle.share_words.proofs.words.Words.raise.Given as goal

abbrev pub ghosts-raise_as : goal.ghosts-raise_as
ghosts-raise_as a = record { share = a.self.now.share; path = a.path }
