use Rattle.share_words.proofs.words.Words.look.Given as goal

abbrev pub ghosts-look_as : goal.ghosts-look_as
ghosts-look_as a = record { share = a.self.now.share }
