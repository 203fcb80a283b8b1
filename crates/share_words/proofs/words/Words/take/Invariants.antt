use Rattle.share_words.proofs.words.Words.take.Given as goal

abbrev pub ghosts-take_as : goal.ghosts-take_as
ghosts-take_as a = record { share = a.self.now.share; path = a.path }
