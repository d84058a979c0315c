mod RunAnswers
