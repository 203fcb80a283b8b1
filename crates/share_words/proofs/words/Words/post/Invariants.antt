use Rattle.share_words.proofs.words.Words.post.Given as goal

abbrev pub ghosts-post_as : goal.ghosts-post_as
ghosts-post_as a = record { share = a.self.now.share }
